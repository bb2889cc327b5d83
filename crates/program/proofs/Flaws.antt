-- The first task that is not well formed, as a search over the tasks' numbers finds it.
use denote.Param.Members.{Mut}
use denote.Ref.{Bor}
use Rattle.std.proofs.Common.{◌≡◌, ℕ, ◌<◌, ◌≤◌, Bool, true, false, List, length, Some, None, Option, subst, arith}
use Rattle.std.specs.Iterator.{YieldsThen}
use Rattle.std.specs.List.{FoldsTo}
use Rattle.std.specs.Fn.{CalledAt}
use Rattle.std.specs.Option.{MatchOption}
use Rattle.std.specs.Bool.{⊤}
use Rattle.std.specs.declared.ops.Range.{Range}
use Rattle.std.proofs.iter.Yields.{nat_range_steps}
use Rattle.std.proofs.lemmas.Iterator.{first_from_Range}
use Rattle.program.specs.Sound.{Source, sound_at}
use Rattle.program.specs.Drafts.{IsFirstFlawed, NoneIsFlawed}

-- said of the draft
found : (p : Source) (r : Option ℕ)
    → MatchOption r ((k : ℕ) → 0 ≤ k → k < length p.tasks → sound_at p k ≡ true) (λ i. (0 ≤ i) × (i < length p.tasks) × (sound_at p i ≡ false) × ((k : ℕ) → 0 ≤ k → k < i → sound_at p k ≡ true))
    → MatchOption r (NoneIsFlawed p) (IsFirstFlawed p)
found p (Some t) (low, there, flawed, before) = record { there = there; before = λ u h. before u (omega arith) h; flawed = flawed }
found p None each = record { each = λ u h. each u (omega arith) h }

pub first_flawed_from : {F : Type 0} {g : Mut F (Bor ℕ × Unit {0}) Bool} (p : Source) (s u : Range ℕ) (f : F) (r : Option ℕ)
    → (xs : List ℕ) × (j : F) × YieldsThen nat_range_steps s xs r u × FoldsTo (λ q x o. CalledAt g q x false o) f xs j × MatchOption r ⊤ (λ x. (h : F) × CalledAt g j x true h)
    → s ≡ record { start = 0; end = length p.tasks }
    → ((x : ℕ) (q : F) → CalledAt g f x true q → sound_at p x ≡ false) → ((x : ℕ) (q : F) → CalledAt g f x false q → (q ≡ f) × (sound_at p x ≡ true))
    → MatchOption r (NoneIsFlawed p) (IsFirstFlawed p)
first_flawed_from p s u f r ran whole told passed =
    found p r
    (subst
    (λ (t : Range ℕ). MatchOption r ((k : ℕ) → t.start ≤ k → k < t.end → sound_at p k ≡ true) (λ i. (t.start ≤ i) × (i < t.end) × (sound_at p i ≡ false) × ((k : ℕ) → t.start ≤ k → k < i → sound_at p k ≡ true)))
    whole
    (first_from_Range s u f r (λ x. sound_at p x ≡ false) (λ x. sound_at p x ≡ true) ran told passed))
