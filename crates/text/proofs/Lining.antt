-- The lines of a text, taken off one at a time.
use Rattle.std.proofs.Common.{◌≡◌, ℕ, suc, ◌+◌, ◌<◌, ◌≤◌, Bool, true, false, not, cond, List, [], ◌∷◌, length, take, drop, refl, ap, sym, ◌∙◌, arith, inl, inr, one-add, add-zero}
use Rattle.std.specs.List.{prefix_len, filter}
use Rattle.std.proofs.lemmas.Bool.{cases_Bool}
use Rattle.text.specs.declared.refusal.Place.{Place}
use Rattle.text.specs.Bytes.{in_line}
use Rattle.text.specs.Tokens.{Tok, front, tokens_from, lines_from, is_skipped, lines_at}
use Rattle.text.specs.Reading.{IsNext}

-- one byte on within a line, by whether it is part of the line
on : (line at b : ℕ) (bs : List ℕ) (v : Bool) → in_line b ≡ v → lines_from true line at (b ∷ bs) ≡ lines_from v (cond v line (line + 1)) (at + 1) bs
unfolding lines_from
on line at b bs v e = λ i. lines_from (e i) (cond (e i) line (line + 1)) (at + 1) bs

-- within a line, the lines are those behind it
pub past_line : (line at : ℕ) (bs : List ℕ) → lines_from true line at bs ≡ lines_from false (line + 1) (at + prefix_len in_line bs + 1) (drop 1 (drop (prefix_len in_line bs) bs))
unfolding lines_from
past_line line at [] = refl
past_line line at (b ∷ bs) =
    let k = prefix_len in_line bs in
    let behind : ℕ → ℕ → List (List Tok) = λ n q. lines_from false (line + 1) (q + 1) (drop 1 (drop n (b ∷ bs))) in
    elim (cases_Bool (in_line b)) [
      | inl more ↦
          let size : prefix_len in_line (b ∷ bs) ≡ suc k = ap (λ v. cond v (1 + k) 0) more ∙ one-add k in
          on line at b bs true more ∙ past_line line (at + 1) bs ∙ ap (λ q. behind (suc k) q) (omega arith) ∙ ap (λ n. behind n (at + n)) (sym size)
      | inr end ↦
          let size : prefix_len in_line (b ∷ bs) ≡ 0 = ap (λ v. cond v (1 + k) 0) end in
          on line at b bs false end ∙ ap (λ q. behind 0 q) (sym (add-zero at)) ∙ ap (λ n. behind n (at + n)) (sym size)
    ]

pub line_past : (line at : ℕ) (bs behind rest : List ℕ) (size : ℕ) → size ≡ prefix_len in_line bs → behind ≡ drop size bs → rest ≡ drop 1 behind → lines_from true line at bs ≡ lines_from false (line + 1) (at + size + 1) rest
line_past line at bs behind rest size e f g =
    past_line line at bs
    ∙ ap (λ n. lines_from false (line + 1) (at + n + 1) (drop 1 (drop n bs))) (sym e)
    ∙ ap (lines_from false (line + 1) (at + size + 1)) (ap (drop 1) (sym f) ∙ sym g)

-- and at its first byte, its tokens and those
first_line : (line at : ℕ) (bs : List ℕ) → 0 < length bs → lines_from false line at bs ≡ tokens_from false line at (front in_line bs) ∷ lines_from true line at bs
unfolding lines_from
first_line line at [] h = absurd (omega arith)
first_line line at (b ∷ bs) h = refl

-- seven tokens tell whether a line is skipped
skipped_by_seven : (ts : List Tok) → is_skipped (take 7 ts) ≡ is_skipped ts
skipped_by_seven [] = refl
skipped_by_seven (t ∷ ts) = refl

-- a line at the front, by whether it is skipped
kept : (ts : List Tok) (rest : List (List Tok)) (v : Bool) → is_skipped ts ≡ v → filter (λ line. not (is_skipped line)) (ts ∷ rest) ≡ cond (not v) (ts ∷ filter (λ line. not (is_skipped line)) rest) (filter (λ line. not (is_skipped line)) rest)
kept ts rest v e = ap (λ u. cond (not u) (ts ∷ filter (λ line. not (is_skipped line)) rest) (filter (λ line. not (is_skipped line)) rest)) e

-- A line is taken off, and of its tokens seven are held.
module _ (p q : Place) (bs cs : List ℕ) (held : List Tok) (some : 0 < length bs) (seven : held ≡ take 7 (tokens_from false p.line p.byte (front in_line bs))) (more : lines_from true p.line p.byte bs ≡ lines_from false q.line q.byte cs) where
  abbrev line : List Tok
  line = tokens_from false p.line p.byte (front in_line bs)

  split : (v : Bool) → is_skipped held ≡ v → lines_at p bs ≡ cond (not v) (line ∷ lines_at q cs) (lines_at q cs)
  split v e =
      ap (filter (λ ts. not (is_skipped ts))) (first_line p.line p.byte bs some ∙ ap (λ ls. line ∷ ls) more)
      ∙ kept line (lines_from false q.line q.byte cs) v (sym (skipped_by_seven line) ∙ ap is_skipped (sym seven) ∙ e)

  -- it is skipped
  pub left_skipped : is_skipped held ≡ true → lines_at p bs ≡ lines_at q cs
  left_skipped e = split true e

  -- it is not
  pub left_next : is_skipped held ≡ false → IsNext (lines_at p bs) (lines_at q cs) held
  left_next e = record { tokens = line; next = split false e; first_seven = seven; not_skipped = sym (skipped_by_seven line) ∙ ap is_skipped (sym seven) ∙ e }

-- and none is left
pub left_none : (p : Place) (bs : List ℕ) → length bs ≤ 0 → lines_at p bs ≡ []
unfolding lines_from
left_none p [] h = refl
left_none p (b ∷ bs) h = absurd (omega arith)
