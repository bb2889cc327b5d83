-- When a text is accepted and what is told of another, said of its bytes and its lines.
use Rattle.std.specs.Prelude.{◌≡◌, ◌↔◌, ℕ, ◌+◌, ◌<◌, ◌≤◌, true, false, cond, ◌==◌, List, [], ◌∷◌, ◌++◌, length, Option, Some, None}
use Rattle.std.specs.List.{count_by}
use Rattle.text.specs.declared.refusal.Place.{Place}
use Rattle.text.specs.declared.refusal.Refusal.{Refusal}
use Rattle.text.specs.Bytes.{is_allowed}
use Rattle.text.specs.Tokens.{Tok, lines_of}
use Rattle.forms.specs.Forms.{Line}
use Rattle.grammar.specs.Judging.{is_unfinished, point_of}
use Rattle.rounds.specs.Rounds.{emits_round, forms_of, line_round, name_round, skip_round, text_offence}

-- How something in a row offends, seen with what stands before it and what stands behind it.
abbrev pub Judgement : Type 0 → Type 0
Judgement A = List A → A → List A → Option Refusal

-- Nothing in the row offends.
pub record NoneOffends {A : Type 0} (judge : Judgement A) (row : List A) : Type 0 where
  pub none : (before : List A) (here : A) (behind : List A) → row ≡ before ++ here ∷ behind → judge before here behind ≡ None

-- r is the offence of something in the row, and nothing before it offends.
pub record IsFirst {A : Type 0} (judge : Judgement A) (row : List A) (r : Refusal) : Type 0 where
  pub before : List A
  pub here : A
  pub behind : List A
  pub parts : row ≡ before ++ here ∷ behind
  pub offends : judge before here behind ≡ Some r
  pub none_before : (b : List A) (x : A) (c : List A) → before ≡ b ++ x ∷ c → judge b x (c ++ here ∷ behind) ≡ None

-- the place behind these bytes: its line is one more than the count of bytes 10 among them
abbrev pub place_behind : List ℕ → Place
place_behind before = record { line = 1 + count_by (λ b. b == 10) before; byte = length before }

-- A byte offends if no text may have it.
abbrev pub judge_byte : List ℕ → ℕ → List ℕ → Option Refusal
judge_byte before b behind = cond (is_allowed b) None (Some (Refusal.Byte (place_behind before)))

-- a line, judged by the forms of those before it and behind it
abbrev pub judge_line : (List Line → List Tok → List Line → Option Refusal) → List (List Tok) → List Tok → List (List Tok) → Option Refusal
judge_line round before line behind = round (forms_of before) line (forms_of behind)

-- the forms of a text's lines
abbrev pub whole : List ℕ → List Line
whole text = forms_of (lines_of text)

-- what is looked over, round after round
pub data Round : Type 0 where
  size : Round
  bytes : Round
  lines : Round
  end : Round
  names : Round
  skips : Round
  emits : Round

-- in their order
abbrev pub all_rounds : List Round
all_rounds = size ∷ bytes ∷ lines ∷ end ∷ names ∷ skips ∷ emits ∷ []

-- The round has no offence.
abbrev pub IsClear : List ℕ → Round → Type 0
IsClear text size = length text ≤ 16384
IsClear text bytes = NoneOffends judge_byte text
IsClear text lines = NoneOffends (judge_line line_round) (lines_of text)
IsClear text end = is_unfinished (point_of (whole text)) ≡ false
IsClear text names = NoneOffends (judge_line (name_round (whole text))) (lines_of text)
IsClear text skips = NoneOffends (judge_line skip_round) (lines_of text)
IsClear text emits = NoneOffends (judge_line (emits_round (whole text))) (lines_of text)

-- r is the first offence of the round.
abbrev pub IsFirstOf : List ℕ → Round → Refusal → Type 0
IsFirstOf text size r = (16384 < length text) × (r ≡ Refusal.TooLong)
IsFirstOf text bytes r = IsFirst judge_byte text r
IsFirstOf text lines r = IsFirst (judge_line line_round) (lines_of text) r
IsFirstOf text end r = (is_unfinished (point_of (whole text)) ≡ true) × (r ≡ Refusal.Unfinished (length text))
IsFirstOf text names r = IsFirst (judge_line (name_round (whole text))) (lines_of text) r
IsFirstOf text skips r = IsFirst (judge_line skip_round) (lines_of text) r
IsFirstOf text emits r = IsFirst (judge_line (emits_round (whole text))) (lines_of text) r

-- r is the first offence of the first of these rounds that has one.
pub data IsFirstIn (text : List ℕ) (r : Refusal) : List Round → Type 0 where
  here : {round : Round} {rounds : List Round} → IsFirstOf text round r → IsFirstIn text r (round ∷ rounds)
  later : {round : Round} {rounds : List Round} → IsClear text round → IsFirstIn text r rounds → IsFirstIn text r (round ∷ rounds)

-- A text is accepted exactly when no round has an offence. What is told of any other is the first offence of the first round that has one.
pub record TextTold (text : List ℕ) : Type 0 where
  pub accepted : (text_offence text ≡ None) ↔ ((round : Round) → IsClear text round)
  pub refused : (r : Refusal) → (text_offence text ≡ Some r) ↔ IsFirstIn text r all_rounds
