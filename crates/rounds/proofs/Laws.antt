-- The first offence of the first round that has one is the one that is told.
use Rattle.std.proofs.Common.{◌≡◌, ℕ, ◌+◌, ltb, eqb, Bool, true, false, cond, not, Option, Some, None, List, [], ◌∷◌, ◌++◌, ◌⊎◌, inl, inr, length, refl, sym, ap, subst, ◌∙◌, append-nil, append_assoc}
use Rattle.std.specs.List.{AllByRecursion, count_by, position_from}
use Rattle.std.specs.Option.{option_map, option_or}
use Rattle.std.proofs.lemmas.Bool.{ltb-true, ltb-false, lt-ltb, le-ltb}
use Rattle.std.proofs.Math.Seq.{take-append_seam}
use Rattle.std.proofs.lemmas.List.{length_push}
use Rattle.std.proofs.lemmas.List.Elements.{filter_map-append}
use Rattle.std.proofs.lemmas.Iterator.Adapters.{position_from-zero}
use Rattle.text.specs.declared.refusal.Refusal.{Refusal}
use Rattle.text.specs.Bytes.{is_allowed}
use Rattle.text.specs.Tokens.{Tok, lines_of}
use Rattle.text.specs.Readable.{byte_offence, byte_place, length_offence}
use Rattle.forms.specs.Forms.{Line, form_of}
use Rattle.grammar.specs.Judging.{is_unfinished, point_of}
use Rattle.grammar.specs.Reading.{first_of}
use Rattle.rounds.specs.Rounds.{emits_round, end_offence, first_line, forms_of, line_round, name_round, skip_round, text_offence}
use Rattle.rounds.specs.Laws.{IsClear, IsFirstIn, here, later, IsFirstOf, Round, size, bytes, lines, end, names, skips, emits, all_rounds, judge_byte, judge_line, place_behind, whole, IsFirst, NoneOffends, TextTold}
use Rattle.rounds.proofs.Rows.{Tells, first_in, row_tells, tells_as, tells_none, then_tells}

-- one offence, by a test
tells_if : (b : Bool) (s : Refusal) → Tells (cond b (Some s) None) (b ≡ false) (λ r. (b ≡ true) × (r ≡ s))
tells_if true s = record { accepted = (λ e. absurd cc, λ e. absurd cc); refused = λ r. (λ e. (refl, cc), λ p. let e = p.1 in cc) }
tells_if false s = record { accepted = (λ e. refl, λ e. refl); refused = λ r. (λ e. absurd cc, λ p. absurd (let e = p.0 in cc)) }

size_tells : (text : List ℕ) → Tells (length_offence text) (IsClear text size) (IsFirstOf text size)
size_tells text =
    let n = length text in
    tells_as (tells_if (ltb 16384 n) Refusal.TooLong) (ltb-false 16384 n, le-ltb 16384 n) (λ r. (λ p. (ltb-true 16384 n p.0, p.1), λ p. (lt-ltb 16384 n p.0, p.1)))

-- The first byte that is not allowed is found by going along the text.

byte_at : (past rest : List ℕ) → byte_place (past ++ rest) (length past) ≡ place_behind past
byte_at past rest = λ i. record { line = 1 + count_by (λ b. eqb b 10) (take-append_seam past rest i); byte = length past }

bytes_in : (past rest : List ℕ) → option_map (λ p. Refusal.Byte (byte_place (past ++ rest) p)) (position_from (λ b. not (is_allowed b)) (length past) rest) ≡ first_in (λ b. judge_byte (past ++ b)) rest
bytes_in past [] = refl
bytes_in past (b ∷ rest) =
    let told : ℕ → Refusal = λ p. Refusal.Byte (byte_place (past ++ b ∷ rest) p) in
    let found : ℕ → Option ℕ = λ n. position_from (λ c. not (is_allowed c)) n rest in
    let from : Option Refusal = first_in (λ d. judge_byte (past ++ b ∷ d)) rest in
    let on : option_map told (found (length past + 1)) ≡ from = (λ i. option_map (λ p. Refusal.Byte (byte_place (sym (append_assoc past (b ∷ []) rest) i) p)) (found (sym (length_push past b) i))) ∙ bytes_in (past ++ b ∷ []) rest ∙ (λ i. first_in (λ d. judge_byte (append_assoc past (b ∷ []) d i)) rest) in
    elim (is_allowed b) as (λ v. option_map told (cond (not v) (Some (length past)) (found (length past + 1))) ≡ option_or (cond v None (Some (Refusal.Byte (place_behind (past ++ []))))) from) [
      | true ↦ on
      | false ↦ ap (λ p. Some (Refusal.Byte p)) (byte_at past (b ∷ rest) ∙ ap place_behind (sym (append-nil past)))
    ]

bytes_tell : (text : List ℕ) → Tells (byte_offence text) (IsClear text bytes) (IsFirstOf text bytes)
bytes_tell text =
    let along : byte_offence text ≡ first_in judge_byte text = ap (option_map (λ p. Refusal.Byte (byte_place text p))) (position_from-zero (λ b. not (is_allowed b)) text) ∙ bytes_in [] text in
    subst (λ o. Tells o (IsClear text bytes) (IsFirstOf text bytes)) (sym along) (row_tells judge_byte text)

-- So is the first line that offends.

lines_in : (round : List Line → List Tok → List Line → Option Refusal) (before : List Line) (ls : List (List Tok)) → first_line round before ls ≡ first_in (λ b line c. round (before ++ forms_of b) line (forms_of c)) ls
unfolding first_line
lines_in round before [] = refl
lines_in round before (line ∷ ls) =
    let form = forms_of (line ∷ []) in
    let on : (b : List (List Tok)) → (before ++ form) ++ forms_of b ≡ before ++ forms_of (line ∷ b) = λ b. append_assoc before form (forms_of b) ∙ ap (λ l. before ++ l) (sym (filter_map-append form_of (line ∷ []) b)) in
    (λ i. option_or (round (sym (append-nil before) i) line (forms_of ls)) (lines_in round (before ++ form) ls i))
    ∙ (λ i. option_or (round (before ++ []) line (forms_of ls)) (first_in (λ b l c. round (on b i) l (forms_of c)) ls))

lines_tell : (round : List Line → List Tok → List Line → Option Refusal) (ls : List (List Tok)) → Tells (first_line round [] ls) (NoneOffends (judge_line round) ls) (IsFirst (judge_line round) ls)
lines_tell round ls = subst (λ o. Tells o (NoneOffends (judge_line round) ls) (IsFirst (judge_line round) ls)) (sym (lines_in round [] ls)) (row_tells (judge_line round) ls)

-- the first offence of a round
round_offence : List ℕ → Round → Option Refusal
round_offence text size = length_offence text
round_offence text bytes = byte_offence text
round_offence text lines = first_line line_round [] (lines_of text)
round_offence text end = end_offence (length text) (whole text)
round_offence text names = first_line (name_round (whole text)) [] (lines_of text)
round_offence text skips = first_line skip_round [] (lines_of text)
round_offence text emits = first_line (emits_round (whole text)) [] (lines_of text)

round_tells : (text : List ℕ) (round : Round) → Tells (round_offence text round) (IsClear text round) (IsFirstOf text round)
unfolding round_offence
round_tells text size = size_tells text
round_tells text bytes = bytes_tell text
round_tells text lines = lines_tell line_round (lines_of text)
round_tells text end = tells_if (is_unfinished (point_of (whole text))) (Refusal.Unfinished (length text))
round_tells text names = lines_tell (name_round (whole text)) (lines_of text)
round_tells text skips = lines_tell skip_round (lines_of text)
round_tells text emits = lines_tell (emits_round (whole text)) (lines_of text)

-- the first of these rounds, and those behind it
first_here : {text : List ℕ} {round : Round} {rounds : List Round} {r : Refusal} → IsFirstOf text round r ⊎ (IsClear text round × IsFirstIn text r rounds) → IsFirstIn text r (round ∷ rounds)
first_here (inl f) = here f
first_here (inr p) = later p.0 p.1

first_there : {text : List ℕ} {round : Round} {rounds : List Round} {r : Refusal} → IsFirstIn text r (round ∷ rounds) → IsFirstOf text round r ⊎ (IsClear text round × IsFirstIn text r rounds)
first_there (here f) = inl f
first_there (later c f) = inr (c, f)

in_none : {text : List ℕ} {r : Refusal} → IsFirstIn text r [] → ⊥
in_none f = elim f [ ]

rounds_tell : (text : List ℕ) (rounds : List Round) → Tells (first_of (round_offence text) rounds) (AllByRecursion (IsClear text) rounds) (λ r. IsFirstIn text r rounds)
rounds_tell text [] = tells_as tells_none (λ u. u, λ u. u) (λ r. (λ h. absurd h, in_none))
rounds_tell text (round ∷ rounds) =
    tells_as (then_tells (round_offence text round) (first_of (round_offence text) rounds) (round_tells text round) (rounds_tell text rounds)) (λ h. h, λ h. h) (λ r. (first_here, first_there))

all_clear : (text : List ℕ) → AllByRecursion (IsClear text) all_rounds → (round : Round) → IsClear text round
all_clear text h size = h.0
all_clear text h bytes = h.1.0
all_clear text h lines = h.1.1.0
all_clear text h end = h.1.1.1.0
all_clear text h names = h.1.1.1.1.0
all_clear text h skips = h.1.1.1.1.1.0
all_clear text h emits = h.1.1.1.1.1.1.0

pub text_told : (text : List ℕ) → TextTold text
unfolding text_offence round_offence
text_told text =
    let t : Tells (text_offence text) (AllByRecursion (IsClear text) all_rounds) (λ r. IsFirstIn text r all_rounds) = rounds_tell text all_rounds in
    record { accepted = (λ e. all_clear text (t.accepted.0 e), λ h. t.accepted.1 (h size, (h bytes, (h lines, (h end, (h names, (h skips, (h emits, tt)))))))); refused = t.refused }
