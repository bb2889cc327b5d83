-- From a line's form to what stands in it, and back.
use Rattle.std.proofs.Common.{◌≡◌, ℕ, true, false, cond, Option, Some, None, List, [], ◌∷◌, codes, refl, ◌∙◌, ap, subst}
use Rattle.std.specs.Option.{option_map}
use Rattle.std.specs.List.{AllByRecursion, AllZip}
use Rattle.std.specs.Str.{bytes_eq}
use Rattle.std.proofs.lemmas.Slice.Eq.{bytes_eq-Decides}
use Rattle.text.specs.Tokens.{Tok, text_of}
use Rattle.program.specs.declared.statement.Operator.{Operator}
use Rattle.program.specs.declared.statement.Comparison.{Comparison}
use Rattle.program.specs.Signs.{operator_sign, comparison_sign}
use Rattle.forms.specs.declared.keyword.Keyword.{Keyword}
use Rattle.forms.specs.Forms.{Line, Sentence, variable, local, task, statement, set, emit, skip, next, choose, stop, row_of, keywords, keyword_of, operators, operator_of, comparisons, comparison_of, one_behind, two_behind, four_behind, next_behind, behind, form_of, Slot, Stands, slots, IsLine, FormsTell}

-- What a table's row tells of the text that it was found by

row_tells : {A : Type 0} (word : A → List ℕ) (rows : List (List ℕ × A)) → AllByRecursion (λ row. row.0 ≡ word row.1) rows → (text : List ℕ) (a : A) → row_of rows text ≡ Some a → text ≡ word a
row_tells word [] all text a e = absurd (cc)
row_tells word (row ∷ rows) all text a e =
    elim (bytes_eq text row.0) as (λ b. (b ≡ true → text ≡ row.0) → cond b (Some row.1) (row_of rows text) ≡ Some a → text ≡ word a) [
      | true ↦ λ same found. same refl ∙ all.0 ∙ ap word (let one : row.1 ≡ a = cc in one)
      | false ↦ λ same found. row_tells word rows all.1 text a found
    ] (bytes_eq-Decides text row.0).0 e

abbrev word_of : Keyword → List ℕ
word_of Keyword.Var = codes "var"
word_of Keyword.Loc = codes "loc"
word_of Keyword.Task = codes "task"
word_of Keyword.Set = codes "set"
word_of Keyword.Emit = codes "emit"
word_of Keyword.Skip = codes "skip"
word_of Keyword.Next = codes "next"
word_of Keyword.Stop = codes "stop"

keyword_tells : (text : List ℕ) (k : Keyword) → keyword_of text ≡ Some k → text ≡ word_of k
keyword_tells = row_tells word_of keywords (refl, (refl, (refl, (refl, (refl, (refl, (refl, (refl, tt))))))))

operator_tells : (text : List ℕ) (o : Operator) → operator_of text ≡ Some o → text ≡ operator_sign o
operator_tells = row_tells operator_sign operators (refl, (refl, (refl, (refl, (refl, (refl, (refl, tt)))))))

comparison_tells : (text : List ℕ) (c : Comparison) → comparison_of text ≡ Some c → text ≡ comparison_sign c
comparison_tells = row_tells comparison_sign comparisons (refl, (refl, tt))

operator_again : (o : Operator) → operator_of (operator_sign o) ≡ Some o
operator_again Operator.Plus = refl
operator_again Operator.Minus = refl
operator_again Operator.And = refl
operator_again Operator.Or = refl
operator_again Operator.Xor = refl
operator_again Operator.Quotient = refl
operator_again Operator.Remainder = refl

comparison_again : (c : Comparison) → comparison_of (comparison_sign c) ≡ Some c
comparison_again Comparison.Equal = refl
comparison_again Comparison.Less = refl

-- From a form to its slots

mapped_tells : {A B : Type 0} (h : A → B) (P : B → Type 0) (o : Option A) → ((a : A) → o ≡ Some a → P (h a)) → (b : B) → option_map h o ≡ Some b → P b
mapped_tells h P None all b e = absurd (cc)
mapped_tells h P (Some a) all b e = let same : h a ≡ b = cc in subst P same (all a refl)

one_tells : {A : Type 0} (form : Tok → A) (P : A → List Tok → Type 0) → ((a : Tok) → P (form a) (a ∷ [])) → (ts : List Tok) (f : A) → one_behind form ts ≡ Some f → P f ts
one_tells form P all [] f e = absurd (cc)
one_tells form P all (a ∷ []) f e = let same : form a ≡ f = cc in subst (λ g. P g (a ∷ [])) same (all a)
one_tells form P all (a ∷ b ∷ ts) f e = absurd (cc)

two_tells : {A : Type 0} (form : Tok → Tok → A) (P : A → List Tok → Type 0) → ((a b : Tok) → P (form a b) (a ∷ b ∷ [])) → (ts : List Tok) (f : A) → two_behind form ts ≡ Some f → P f ts
two_tells form P all [] f e = absurd (cc)
two_tells form P all (a ∷ []) f e = absurd (cc)
two_tells form P all (a ∷ b ∷ []) f e = let same : form a b ≡ f = cc in subst (λ g. P g (a ∷ b ∷ [])) same (all a b)
two_tells form P all (a ∷ b ∷ c ∷ ts) f e = absurd (cc)

four_tells : {A S : Type 0} (sign : List ℕ → Option S) (form : Tok → Tok → S → Tok → A) (P : A → List Tok → Type 0) → ((a b c d : Tok) (s : S) → sign (text_of c) ≡ Some s → P (form a b s d) (a ∷ b ∷ c ∷ d ∷ [])) → (ts : List Tok) (f : A) → four_behind sign form ts ≡ Some f → P f ts
four_tells sign form P all [] f e = absurd (cc)
four_tells sign form P all (a ∷ []) f e = absurd (cc)
four_tells sign form P all (a ∷ b ∷ []) f e = absurd (cc)
four_tells sign form P all (a ∷ b ∷ c ∷ []) f e = absurd (cc)
four_tells sign form P all (a ∷ b ∷ c ∷ d ∷ []) f e = mapped_tells (λ s. form a b s d) (λ g. P g (a ∷ b ∷ c ∷ d ∷ [])) (sign (text_of c)) (all a b c d) f e
four_tells sign form P all (a ∷ b ∷ c ∷ d ∷ u ∷ ts) f e = absurd (cc)

next_tells : (k : Tok) → text_of k ≡ codes "next" → (ts : List Tok) (s : Sentence) → next_behind ts ≡ Some s → IsLine (statement s) (k ∷ ts)
next_tells k w [] s e = absurd (cc)
next_tells k w (t ∷ []) s e = let same : next t ≡ s = cc in subst (λ s. IsLine (statement s) (k ∷ t ∷ [])) same (w, (refl, tt))
next_tells k w (t ∷ a ∷ []) s e = absurd (cc)
next_tells k w (t ∷ a ∷ c ∷ []) s e = absurd (cc)
next_tells k w (t ∷ a ∷ c ∷ b ∷ []) s e = absurd (cc)
next_tells k w (t ∷ a ∷ c ∷ b ∷ u ∷ []) s e =
    mapped_tells (λ s. choose t a s b u) (λ s. IsLine (statement s) (k ∷ t ∷ a ∷ c ∷ b ∷ u ∷ [])) (comparison_of (text_of c))
    (λ o found. (w, (refl, (refl, (comparison_tells (text_of c) o found, (refl, (refl, tt)))))))
    s e
next_tells k w (t ∷ a ∷ c ∷ b ∷ u ∷ d ∷ ts) s e = absurd (cc)

statement_tells : (k : Tok) (ts : List Tok) (o : Option Sentence) → ((s : Sentence) → o ≡ Some s → IsLine (statement s) (k ∷ ts)) → (f : Line) → option_map statement o ≡ Some f → IsLine f (k ∷ ts)
statement_tells k ts o all f e = mapped_tells statement (λ f. IsLine f (k ∷ ts)) o all f e

behind_tells : (word : Keyword) (k : Tok) → text_of k ≡ word_of word → (ts : List Tok) (f : Line) → behind (Some word) ts ≡ Some f → IsLine f (k ∷ ts)
behind_tells Keyword.Var k w ts f e = two_tells variable (λ f us. IsLine f (k ∷ us)) (λ a b. (w, (refl, (refl, tt)))) ts f e
behind_tells Keyword.Loc k w ts f e = one_tells local (λ f us. IsLine f (k ∷ us)) (λ a. (w, (refl, tt))) ts f e
behind_tells Keyword.Task k w ts f e = one_tells task (λ f us. IsLine f (k ∷ us)) (λ a. (w, (refl, tt))) ts f e
behind_tells Keyword.Set k w ts f e =
    statement_tells k ts (four_behind operator_of set ts)
    (four_tells operator_of set (λ s us. IsLine (statement s) (k ∷ us)) (λ a b c d o found. (w, (refl, (refl, (operator_tells (text_of c) o found, (refl, tt)))))) ts)
    f e
behind_tells Keyword.Emit k w ts f e = statement_tells k ts (one_behind emit ts) (one_tells emit (λ s us. IsLine (statement s) (k ∷ us)) (λ a. (w, (refl, tt))) ts) f e
behind_tells Keyword.Skip k w ts f e =
    statement_tells k ts (four_behind comparison_of skip ts)
    (four_tells comparison_of skip (λ s us. IsLine (statement s) (k ∷ us)) (λ a b c d o found. (w, (refl, (refl, (comparison_tells (text_of c) o found, (refl, tt)))))) ts)
    f e
behind_tells Keyword.Next k w ts f e = statement_tells k ts (next_behind ts) (next_tells k w ts) f e
behind_tells Keyword.Stop k w [] f e = let same : statement stop ≡ f = cc in subst (λ f. IsLine f (k ∷ [])) same (w, tt)
behind_tells Keyword.Stop k w (a ∷ ts) f e = absurd (cc)

keyed_tells : (o : Option Keyword) (k : Tok) → keyword_of (text_of k) ≡ o → (ts : List Tok) (f : Line) → behind o ts ≡ Some f → IsLine f (k ∷ ts)
keyed_tells None k w ts f e = absurd (cc)
keyed_tells (Some word) k w ts f e = behind_tells word k (keyword_tells (text_of k) word w) ts f e

form_tells : (ts : List Tok) (f : Line) → form_of ts ≡ Some f → IsLine f ts
unfolding form_of
form_tells [] f e = absurd (cc)
form_tells (k ∷ ts) f e = keyed_tells (keyword_of (text_of k)) k refl ts f e

-- From the slots to the form

-- a fact for every list of tokens of which one stands in each slot
abbrev Filled : List Slot → (List Tok → Type 0) → Type 0
Filled [] P = P []
Filled (s ∷ ss) P = (t : Tok) → Stands s t → Filled ss (λ us. P (t ∷ us))

by_slots : (ss : List Slot) (P : List Tok → Type 0) → Filled ss P → (ts : List Tok) → AllZip Stands ss ts → P ts
by_slots [] P all [] h = all
by_slots [] P all (t ∷ ts) h = absurd h
by_slots (s ∷ ss) P all [] h = absurd h
by_slots (s ∷ ss) P all (t ∷ ts) h = by_slots ss (λ us. P (t ∷ us)) (all t h.0) ts h.1

abbrev HasForm : Line → List Tok → Type 0
HasForm f ts = form_of ts ≡ Some f

filled : (f : Line) → Filled (slots f) (HasForm f)
unfolding form_of
filled (variable n v) = λ _k w _a p _b q i. behind (keyword_of (w i)) (p i ∷ q i ∷ [])
filled (local n) = λ _k w _a p i. behind (keyword_of (w i)) (p i ∷ [])
filled (task n) = λ _k w _a p i. behind (keyword_of (w i)) (p i ∷ [])
filled (statement (set n a o b)) =
    λ _k w _n p _a q c s _b r.
    (λ i. behind (keyword_of (w i)) (p i ∷ q i ∷ c ∷ r i ∷ []))
    ∙ ap (λ x. option_map statement (option_map (λ y. set n a y b) x)) (ap operator_of s ∙ operator_again o)
filled (statement (emit a)) = λ _k w _a p i. behind (keyword_of (w i)) (p i ∷ [])
filled (statement (skip m a o b)) =
    λ _k w _m p _a q c s _b r.
    (λ i. behind (keyword_of (w i)) (p i ∷ q i ∷ c ∷ r i ∷ []))
    ∙ ap (λ x. option_map statement (option_map (λ y. skip m a y b) x)) (ap comparison_of s ∙ comparison_again o)
filled (statement (next t)) = λ _k w _t p i. behind (keyword_of (w i)) (p i ∷ [])
filled (statement (choose t a o b u)) =
    λ _k w _t p _a q c s _b r _u v.
    (λ i. behind (keyword_of (w i)) (p i ∷ q i ∷ c ∷ r i ∷ v i ∷ []))
    ∙ ap (λ x. option_map statement (option_map (λ y. choose t a y b u) x)) (ap comparison_of s ∙ comparison_again o)
filled (statement stop) = λ _k w i. behind (keyword_of (w i)) []

pub forms_tell : FormsTell
forms_tell ts f = (form_tells ts f, by_slots (slots f) (HasForm f) (filled f) ts)
