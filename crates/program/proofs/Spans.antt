-- Spans of the table that lie one behind the other, and what they hold when the table grows.
use Rattle.std.proofs.Common.{◌≡◌, ℕ, zero, suc, ◌+◌, ◌<◌, ◌≤◌, List, [], ◌∷◌, ◌++◌, map, length, get_or, take, drop, set, sym, ap, ◌∙◌, ap₂, arith, length-drop, length-take}
use Rattle.std.proofs.Math.Seq.{take-append-add}
use Rattle.std.proofs.lemmas.List.{drop-append-le, take-append-le, take_all}
use Rattle.program.specs.declared.span.Span.{Span}
use Rattle.program.specs.declared.statement.Statement.{Statement}
use Rattle.program.specs.Spans.{part, LieBehind}
use Rattle.program.specs.Sound.{total}
use Rattle.program.specs.Drafts.{last_task, onto_last}

-- one statement more
abbrev pub longer : Span → Span
longer x = record { first = x.first; size = x.size + 1 }

-- what a span holds
module _ (table : List Statement) (x : Span) where
  length_part : x.first + x.size ≤ length table → length (part table x) ≡ x.size
  length_part h = simp (length-take, length-drop) (omega arith)

  -- a statement behind the table leaves it as it is
  part_kept : (s : Statement) → x.first + x.size ≤ length table → part (table ++ s ∷ []) x ≡ part table x
  part_kept s h =
      ap (take x.size) (drop-append-le x.first table (s ∷ []) (omega arith))
      ∙ take-append-le x.size (drop x.first table) (s ∷ []) (simp length-drop (omega arith))

  -- or extends it, where the span ends with the table
  part_longer : (s : Statement) → x.first + x.size ≡ length table → part (table ++ s ∷ []) (longer x) ≡ part table x ++ s ∷ []
  part_longer s h =
      let rest : List Statement = drop x.first table in
      let long : length rest ≡ x.size = simp length-drop (omega arith) in
      ap (take (x.size + 1)) (drop-append-le x.first table (s ∷ []) (omega arith))
      ∙ ap (λ n. take (n + 1) (rest ++ s ∷ [])) (sym long)
      ∙ take-append-add rest (s ∷ []) 1
      ∙ ap (λ xs. xs ++ s ∷ []) (sym (take_all x.size rest (omega arith)))

from_start : (a n : ℕ) (xs : List Span) → LieBehind a xs n → a ≤ n
from_start a n [] h = omega arith
from_start a n (x ∷ xs) (e, small, more) = let on = from_start (a + x.size) n xs more in omega arith

-- a span more, as yet without statements
pub opened : (a n : ℕ) (xs : List Span) → LieBehind a xs n → LieBehind a (xs ++ record { first = n; size = 0 } ∷ []) n
opened a n [] h = (sym h, omega arith, omega arith)
opened a n (x ∷ xs) (e, small, more) = (e, small, opened (a + x.size) n xs more)

-- each ends by n
pub span_inside : (a n : ℕ) (xs : List Span) → LieBehind a xs n → (t : ℕ) (z : Span) → t < length xs → ((get_or xs t z).first + (get_or xs t z).size ≤ n) × ((get_or xs t z).size ≤ 64)
span_inside a n [] h t z l = absurd (omega arith)
span_inside a n (x ∷ xs) (e, small, more) zero z l = let end = from_start (a + x.size) n xs more in (omega arith, small)
span_inside a n (x ∷ xs) (e, small, more) (suc t) z l = span_inside (a + x.size) n xs more t z (omega arith)

module _ (table : List Statement) where
  pub total_parts : (a n : ℕ) (xs : List Span) → LieBehind a xs n → n ≤ length table → a + total (map (part table) xs) ≡ n
  total_parts a n [] h fits = omega arith
  total_parts a n (x ∷ xs) (e, small, more) fits =
      let on = total_parts (a + x.size) n xs more fits in
      let end = from_start (a + x.size) n xs more in
      let here = length_part table x (omega arith) in
      omega arith

-- THE LAST SPAN, at place k
module _ (z : Span) where
  pub last_longer : (a n : ℕ) (xs : List Span) (k : ℕ) → LieBehind a xs n → length xs ≡ suc k → (get_or xs k z).size < 64 → LieBehind a (set xs k (longer (get_or xs k z))) (n + 1)
  last_longer a n [] k h l room = absurd (omega arith)
  last_longer a n (x ∷ []) zero (e, small, more) l room = (e, omega arith, omega arith)
  last_longer a n (x ∷ []) (suc k) h l room = absurd (omega arith)
  last_longer a n (x ∷ (y ∷ xs)) zero h l room = absurd (omega arith)
  last_longer a n (x ∷ (y ∷ xs)) (suc k) (e, small, more) l room = (e, small, last_longer (a + x.size) n (y ∷ xs) k more (omega arith) room)

  module _ (table : List Statement) where
    pub length_last : (a n : ℕ) (xs : List Span) (k : ℕ) → LieBehind a xs n → n ≤ length table → length xs ≡ suc k → length (last_task (map (part table) xs)) ≡ (get_or xs k z).size
    length_last a n [] k h fits l = absurd (omega arith)
    length_last a n (x ∷ []) zero (e, small, more) fits l = length_part table x (omega arith)
    length_last a n (x ∷ []) (suc k) h fits l = absurd (omega arith)
    length_last a n (x ∷ (y ∷ xs)) zero h fits l = absurd (omega arith)
    length_last a n (x ∷ (y ∷ xs)) (suc k) (e, small, more) fits l = length_last (a + x.size) n (y ∷ xs) k more fits (omega arith)

    -- a statement behind the table is the last one's
    pub grown : (s : Statement) (a n : ℕ) (xs : List Span) (k : ℕ) → LieBehind a xs n → n ≡ length table → length xs ≡ suc k
        → map (part (table ++ s ∷ [])) (set xs k (longer (get_or xs k z))) ≡ onto_last s (map (part table) xs)
    grown s a n [] k h fits l = absurd (omega arith)
    grown s a n (x ∷ []) zero (e, small, more) fits l = ap (λ t. t ∷ []) (part_longer table x s (omega arith))
    grown s a n (x ∷ []) (suc k) h fits l = absurd (omega arith)
    grown s a n (x ∷ (y ∷ xs)) zero h fits l = absurd (omega arith)
    grown s a n (x ∷ (y ∷ xs)) (suc k) (e, small, more) fits l =
        let end = from_start (a + x.size) n (y ∷ xs) more in
        ap₂ ◌∷◌ (part_kept table x s (omega arith)) (grown s (a + x.size) n (y ∷ xs) k more fits (omega arith))
