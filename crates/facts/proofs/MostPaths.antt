-- The kind that counts, over the paths of a task.
use Rattle.std.proofs.Common.{◌≡◌, ℕ, ◌+◌, ◌≤◌, ◌<◌, Bool, true, false, cond, not, List, [], ◌∷◌, map, max, length, Some, refl, ap, ◌∙◌, inl, inr, arith}
use Rattle.std.specs.List.{fold, reduce}
use Rattle.std.proofs.Math.Path.{ap₂}
use Rattle.std.proofs.lemmas.Bool.{cases_lt}
use Rattle.program.specs.declared.statement.Statement.{Statement}
use Rattle.program.specs.declared.statement.Target.{Target}
use Rattle.program.specs.declared.statement.Next.{Next}
use Rattle.program.specs.Runs.{Run, taken}
use Rattle.program.specs.Shapes.{emits}
use Rattle.program.specs.Paths.{paths, ◌∈◌, emitted_on}
use Rattle.laws.proofs.Paths.{takes_a_path, paths_short}
use Rattle.facts.specs.declared.most.Counts.{Counts}
use Rattle.facts.specs.Joins.{along, IsOverPaths}
use Rattle.facts.specs.Most.{is_direct, direct, direct_on, no_counts, counted, larger, largest, most_over, IsLargest, IsMost}
use Rattle.facts.specs.MostLaws.{same_counts}

-- no statement counts for more than one

emits_one : (s : Statement) → emits s ≤ 1
emits_one Statement.Stop = omega arith
emits_one (Statement.Set n a o b) = omega arith
emits_one (Statement.Emit a) = omega arith
emits_one (Statement.Skip k t) = omega arith
emits_one (Statement.Next t) = omega arith
emits_one (Statement.Choose c t u) = omega arith

emitted_short : (π : List Statement) → emitted_on π ≤ length π
emitted_short [] = omega arith
emitted_short (s ∷ π) = let one = emits_one s in let on = emitted_short π in omega arith

bit_small : (b : Bool) → 0 + cond b 1 0 ≤ 1
bit_small true = omega arith
bit_small false = omega arith

module _ (logged : ℕ → Bool) where
  direct_one : (s : Statement) → direct logged s ≤ 1
  direct_one Statement.Stop = omega arith
  direct_one (Statement.Set n a o b) = bit_small (is_direct logged n)
  direct_one (Statement.Emit a) = omega arith
  direct_one (Statement.Skip k t) = omega arith
  direct_one (Statement.Next t) = omega arith
  direct_one (Statement.Choose c t u) = omega arith

  direct_short : (π : List Statement) → direct_on logged π ≤ length π
  direct_short [] = omega arith
  direct_short (s ∷ π) = let one = direct_one s in let on = direct_short π in omega arith

  -- what a path comes to
  abbrev tally : List Statement → Counts
  tally π = record { emits = emitted_on π; direct = direct_on logged π }

  -- c and then the path, where no count comes to 255
  along_adds : (c : Counts) (π : List Statement) → c.emits + length π ≤ 255 → c.direct + length π ≤ 255
      → along (counted logged) c π ≡ record { emits = c.emits + emitted_on π; direct = c.direct + direct_on logged π }
  along_adds c [] e s = same_counts _ _ (omega arith) (omega arith)
  along_adds c (s ∷ π) p q =
      let one = emits_one s in
      let each = direct_one s in
      along_adds (counted logged s c) π (omega arith) (omega arith) ∙ same_counts _ _ (omega arith) (omega arith)

  tallied : (π : List Statement) → length π ≤ 64 → along (counted logged) no_counts π ≡ tally π
  tallied π short = along_adds no_counts π (omega arith) (omega arith) ∙ same_counts _ _ (omega arith) (omega arith)

  -- the largest of many, from c on
  fold_largest : (f : List Statement → Counts) (c : Counts) (πs : List (List Statement)) → ((π : List Statement) → π ∈ πs → f π ≡ tally π)
      → fold larger c (map f πs) ≡ record { emits = max c.emits (largest emitted_on πs); direct = max c.direct (largest (direct_on logged) πs) }
  fold_largest f c [] each = same_counts _ _ (omega arith) (omega arith)
  fold_largest f c (π ∷ πs) each =
      ap (λ d. fold larger (larger c d) (map f πs)) (each π (inl refl))
      ∙ fold_largest f (larger c (tally π)) πs (λ ρ h. each ρ (inr h))
      ∙ same_counts _ _ (omega arith) (omega arith)

  reduce_largest : (f : List Statement → Counts) (c : Counts) (πs : List (List Statement)) → ((π : List Statement) → π ∈ πs → f π ≡ tally π)
      → Some c ≡ reduce larger (map f πs) → c ≡ record { emits = largest emitted_on πs; direct = largest (direct_on logged) πs }
  reduce_largest f c [] each r = cc
  reduce_largest f c (π ∷ πs) each r =
      let e : c ≡ fold larger (f π) (map f πs) = cc in
      e
      ∙ ap (λ d. fold larger d (map f πs)) (each π (inl refl))
      ∙ fold_largest f (tally π) πs (λ ρ h. each ρ (inr h))

  pub most_is : (task : List Statement) (c : Counts) → length task ≤ 64 → IsOverPaths no_counts (counted logged) larger task c → c ≡ most_over logged task
  most_is task c short r =
      reduce_largest (along (counted logged) no_counts) c (paths 0 task) (λ π h. let on = paths_short 0 task π h in tallied π (omega arith)) r

-- the largest is one of those that it is the largest of

pub none_more : (count : List Statement → ℕ) (πs : List (List Statement)) (π : List Statement) → π ∈ πs → count π ≤ largest count πs
none_more count [] π h = absurd h
none_more count (ρ ∷ πs) π (inl e) = omega (arith, ap count e)
none_more count (ρ ∷ πs) π (inr h) = omega (arith, none_more count πs π h)

-- of one or more paths
some_of : (count : List Statement → ℕ) (ρ : List Statement) (πs : List (List Statement))
    → (π : List Statement) × (π ∈ (ρ ∷ πs)) × (count π ≡ largest count (ρ ∷ πs))
some_of count ρ [] = (ρ, inl refl, omega arith)
some_of count ρ (σ ∷ πs) =
    let on = some_of count σ πs in
    elim (cases_lt (count ρ) (largest count (σ ∷ πs))) [
      | inl less ↦ (on.0, inr on.1, omega (arith, on.2))
      | inr le ↦ (ρ, inl refl, omega arith)
    ]

pub some_as_many : (count : List Statement → ℕ) (πs : List (List Statement)) (ρ : List Statement) → ρ ∈ πs
    → (π : List Statement) × (π ∈ πs) × (count π ≡ largest count πs)
some_as_many count [] ρ h = absurd h
some_as_many count (π ∷ πs) ρ h = some_of count π πs

-- every task has a path, as any run takes one
has_path : (k : ℕ) (task : List Statement) → (π : List Statement) × (π ∈ paths k task)
has_path k task =
    let still : Run = record { inputs = []; variables = []; locals = []; emitted = []; chosen = Next.Stopped } in
    (taken k task still, takes_a_path k task still)

largest_is : (count : List Statement → ℕ) (task : List Statement) → IsLargest count (paths 0 task) (largest count (paths 0 task))
largest_is count task = record {
  none_more = none_more count (paths 0 task);
  some_as_many = let on = has_path 0 task in some_as_many count (paths 0 task) on.0 on.1;
}

pub most_is_largest : (logged : ℕ → Bool) (task : List Statement) → IsMost logged task (most_over logged task)
most_is_largest logged task = record { counts = refl; emits = largest_is emitted_on task; direct = largest_is (direct_on logged) task }

-- only the test's answers at variables count

module _ (f g : ℕ → Bool) (same : (v : ℕ) → v < 48 → f v ≡ g v) where
  is_direct_same : (t : Target) → is_direct f t ≡ is_direct g t
  is_direct_same (Target.Variable v) = ap not (same v.number v.known)
  is_direct_same (Target.Local l) = refl

  direct_same : (s : Statement) → direct f s ≡ direct g s
  direct_same Statement.Stop = refl
  direct_same (Statement.Set n a o b) = ap (λ d. 0 + cond d 1 0) (is_direct_same n)
  direct_same (Statement.Emit a) = refl
  direct_same (Statement.Skip k t) = refl
  direct_same (Statement.Next t) = refl
  direct_same (Statement.Choose c t u) = refl

  direct_on_same : (π : List Statement) → direct_on f π ≡ direct_on g π
  direct_on_same [] = refl
  direct_on_same (s ∷ π) = ap₂ (λ m n. m + n) (direct_same s) (direct_on_same π)

  largest_same : (πs : List (List Statement)) → largest (direct_on f) πs ≡ largest (direct_on g) πs
  largest_same [] = refl
  largest_same (π ∷ πs) = ap₂ max (direct_on_same π) (largest_same πs)

  pub most_over_same : (task : List Statement) → most_over f task ≡ most_over g task
  most_over_same task = same_counts _ _ refl (largest_same (paths 0 task))
