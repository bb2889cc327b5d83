-- The forms of lines: a keyword, and what stands behind it.
use Rattle.std.specs.Prelude.{◌≡◌, ◌↔◌, ℕ, cond, List, [], ◌∷◌, Option, Some, None, codes}
use Rattle.std.specs.Option.{option_map}
use Rattle.std.specs.List.{AllZip}
use Rattle.std.specs.Str.{bytes_eq}
use Rattle.text.specs.Tokens.{Tok, text_of}
use Rattle.program.specs.declared.statement.Operator.{Operator}
use Rattle.program.specs.declared.statement.Comparison.{Comparison}
use Rattle.program.specs.Signs.{operator_sign, comparison_sign}
use Rattle.forms.specs.declared.keyword.Keyword.{Keyword}

-- a statement by its form, with the tokens that it names
pub data Sentence : Type 0 where
  set : Tok → Tok → Operator → Tok → Sentence
  emit : Tok → Sentence
  skip : Tok → Tok → Comparison → Tok → Sentence
  next : Tok → Sentence
  choose : Tok → Tok → Comparison → Tok → Tok → Sentence
  stop : Sentence

-- a line by its form
pub data Line : Type 0 where
  variable : Tok → Tok → Line
  local : Tok → Line
  task : Tok → Line
  statement : Sentence → Line

-- the first row of a table that has the text
abbrev pub row_of : {A : Type 0} → List (List ℕ × A) → List ℕ → Option A
row_of [] text = None
row_of (row ∷ rows) text = cond (bytes_eq text row.0) (Some row.1) (row_of rows text)

-- the keywords as they are written
abbrev pub keywords : List (List ℕ × Keyword)
keywords =
    (codes "var", Keyword.Var)
    ∷ (codes "loc", Keyword.Loc)
    ∷ (codes "task", Keyword.Task)
    ∷ (codes "set", Keyword.Set)
    ∷ (codes "emit", Keyword.Emit)
    ∷ (codes "skip", Keyword.Skip)
    ∷ (codes "next", Keyword.Next)
    ∷ (codes "stop", Keyword.Stop)
    ∷ []

abbrev pub keyword_of : List ℕ → Option Keyword
keyword_of text = row_of keywords text

abbrev pub operators : List (List ℕ × Operator)
operators =
    (codes "+", Operator.Plus)
    ∷ (codes "-", Operator.Minus)
    ∷ (codes "&", Operator.And)
    ∷ (codes "|", Operator.Or)
    ∷ (codes "^", Operator.Xor)
    ∷ (codes "/", Operator.Quotient)
    ∷ (codes "%", Operator.Remainder)
    ∷ []

abbrev pub operator_of : List ℕ → Option Operator
operator_of text = row_of operators text

abbrev pub comparisons : List (List ℕ × Comparison)
comparisons = (codes "=", Comparison.Equal) ∷ (codes "<", Comparison.Less) ∷ []

abbrev pub comparison_of : List ℕ → Option Comparison
comparison_of text = row_of comparisons text

-- A form has exactly so many tokens behind the keyword.
abbrev pub nothing_behind : {A : Type 0} → A → List Tok → Option A
nothing_behind form [] = Some form
nothing_behind form (a ∷ ts) = None

abbrev pub one_behind : {A : Type 0} → (Tok → A) → List Tok → Option A
one_behind form [] = None
one_behind form (a ∷ []) = Some (form a)
one_behind form (a ∷ b ∷ ts) = None

abbrev pub two_behind : {A : Type 0} → (Tok → Tok → A) → List Tok → Option A
two_behind form [] = None
two_behind form (a ∷ []) = None
two_behind form (a ∷ b ∷ []) = Some (form a b)
two_behind form (a ∷ b ∷ c ∷ ts) = None

-- with a sign as the third of four
abbrev pub four_behind : {A S : Type 0} → (List ℕ → Option S) → (Tok → Tok → S → Tok → A) → List Tok → Option A
four_behind sign form [] = None
four_behind sign form (a ∷ []) = None
four_behind sign form (a ∷ b ∷ []) = None
four_behind sign form (a ∷ b ∷ c ∷ []) = None
four_behind sign form (a ∷ b ∷ c ∷ d ∷ []) = option_map (λ s. form a b s d) (sign (text_of c))
four_behind sign form (a ∷ b ∷ c ∷ d ∷ e ∷ ts) = None

-- `next`, alone or with a comparison
abbrev pub next_behind : List Tok → Option Sentence
next_behind [] = None
next_behind (t ∷ []) = Some (next t)
next_behind (t ∷ a ∷ []) = None
next_behind (t ∷ a ∷ c ∷ []) = None
next_behind (t ∷ a ∷ c ∷ b ∷ []) = None
next_behind (t ∷ a ∷ c ∷ b ∷ u ∷ []) = option_map (λ s. choose t a s b u) (comparison_of (text_of c))
next_behind (t ∷ a ∷ c ∷ b ∷ u ∷ d ∷ ts) = None

abbrev pub behind : Option Keyword → List Tok → Option Line
behind None ts = None
behind (Some Keyword.Var) ts = two_behind variable ts
behind (Some Keyword.Loc) ts = one_behind local ts
behind (Some Keyword.Task) ts = one_behind task ts
behind (Some Keyword.Set) ts = option_map statement (four_behind operator_of set ts)
behind (Some Keyword.Emit) ts = option_map statement (one_behind emit ts)
behind (Some Keyword.Skip) ts = option_map statement (four_behind comparison_of skip ts)
behind (Some Keyword.Next) ts = option_map statement (next_behind ts)
behind (Some Keyword.Stop) ts = option_map statement (nothing_behind stop ts)

-- the form of a line's tokens, if they have one
unfoldable pub form_of : List Tok → Option Line
form_of [] = None
form_of (k ∷ ts) = behind (keyword_of (text_of k)) ts

-- What stands in a line: a keyword, a sign, or a token that is to be read.
pub data Slot : Type 0 where
  key : List ℕ → Slot
  sign : List ℕ → Slot
  new_name : Tok → Slot
  first_word : Tok → Slot
  target : Tok → Slot
  operand : Tok → Slot
  reach : Tok → Slot
  task_name : Tok → Slot

-- The forms, each with what stands in it from the left.
abbrev pub slots_of : Sentence → List Slot
slots_of (set n a o b) = key (codes "set") ∷ target n ∷ operand a ∷ sign (operator_sign o) ∷ operand b ∷ []
slots_of (emit a) = key (codes "emit") ∷ operand a ∷ []
slots_of (skip k a c b) = key (codes "skip") ∷ reach k ∷ operand a ∷ sign (comparison_sign c) ∷ operand b ∷ []
slots_of (next t) = key (codes "next") ∷ task_name t ∷ []
slots_of (choose t a c b u) = key (codes "next") ∷ task_name t ∷ operand a ∷ sign (comparison_sign c) ∷ operand b ∷ task_name u ∷ []
slots_of stop = key (codes "stop") ∷ []

abbrev pub slots : Line → List Slot
slots (variable n v) = key (codes "var") ∷ new_name n ∷ first_word v ∷ []
slots (local n) = key (codes "loc") ∷ new_name n ∷ []
slots (task n) = key (codes "task") ∷ new_name n ∷ []
slots (statement s) = slots_of s

-- the token stands in the slot
abbrev pub Stands : Slot → Tok → Type 0
Stands (key word) t = text_of t ≡ word
Stands (sign word) t = text_of t ≡ word
Stands (new_name n) t = t ≡ n
Stands (first_word v) t = t ≡ v
Stands (target n) t = t ≡ n
Stands (operand a) t = t ≡ a
Stands (reach k) t = t ≡ k
Stands (task_name n) t = t ≡ n

-- The tokens are a line of this form: one token for each slot.
abbrev pub IsLine : Line → List Tok → Type 0
IsLine line ts = AllZip Stands (slots line) ts

-- A line has a form exactly when its tokens are a keyword and what stands behind it, one token for each slot.
abbrev pub FormsTell : Type 0
FormsTell = (ts : List Tok) (f : Line) → (form_of ts ≡ Some f) ↔ IsLine f ts
