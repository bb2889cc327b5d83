-- The largest over the tasks, one task after the other.
use Rattle.std.proofs.Common.{◌≡◌, ℕ, ◌<◌, List, [], ◌∷◌, map, max, length, refl, ap, ◌∙◌, inl, arith}
use Rattle.std.specs.List.{fold}
use Rattle.std.proofs.Math.Path.{ap₂}
use Rattle.words.specs.Lists.{items}
use Rattle.program.specs.declared.statement.Statement.{Statement}
use Rattle.program.specs.Programs.{program_source}
use Rattle.program.proofs.Programs.{some_task}
use Rattle.facts.specs.Bounds.{most_visit_stores, most_visit_steps, steps_of, stores_of}
use Rattle.facts.specs.Most.{IsLargest, largest}
use Rattle.facts.proofs.MostPaths.{none_more, some_as_many}
use Rattle.rules.specs.declared.rules.Rules.{Rules}
use Rattle.rules.specs.Known.{AreBounds, larger_bounds, task_facts}
use Rattle.rules.proofs.Facts.{facts_right}

-- of one task or more
largest_is : (count : List Statement → ℕ) (tasks : List (List Statement)) → 0 < length tasks → IsLargest count tasks (largest count tasks)
largest_is count [] h = absurd (omega arith)
largest_is count (task ∷ tasks) h = record { none_more = none_more count (task ∷ tasks); some_as_many = some_as_many count (task ∷ tasks) task (inl refl) }

-- one number more
further : (a n m l : ℕ) → n ≡ m → max (max a n) l ≡ max a (max m l)
further a n m l e = omega arith

-- by the facts of the tasks
same_stores : (task : List Statement) → stores_of (task_facts task) ≡ most_visit_stores task
same_stores task = (facts_right task).visit_stores

same_steps : (task : List Statement) → steps_of (task_facts task) ≡ most_visit_steps task
same_steps task = (facts_right task).visit_steps

-- from b on
largest_from : (b : ℕ × ℕ) (tasks : List (List Statement))
    → fold larger_bounds b (map task_facts tasks) ≡ (max b.0 (largest most_visit_stores tasks), max b.1 (largest most_visit_steps tasks))
unfolding larger_bounds
largest_from b [] = ap₂ (λ d s. (d, s)) (omega arith) (omega arith)
largest_from b (task ∷ tasks) =
    largest_from (larger_bounds b (task_facts task)) tasks
    ∙ ap₂ (λ d s. (d, s)) (further b.0 _ _ _ (same_stores task)) (further b.1 _ _ _ (same_steps task))

pub bounds_are : (rules : Rules) → AreBounds (program_source rules.program) (fold larger_bounds (0, 0) (items rules.facts))
bounds_are rules =
    let tasks : List (List Statement) = (program_source rules.program).tasks in
    let some : 0 < length tasks = some_task (program_source rules.program) rules.program.checked in
    let b : ℕ × ℕ = fold larger_bounds (0, 0) (items rules.facts) in
    let same : b ≡ (max 0 (largest most_visit_stores tasks), max 0 (largest most_visit_steps tasks)) =
    ap (fold larger_bounds (0, 0)) rules.known ∙ largest_from (0, 0) tasks in
    let stores : b.0 ≡ largest most_visit_stores tasks = ap (λ c. c.0) same ∙ omega arith in
    let steps : b.1 ≡ largest most_visit_steps tasks = ap (λ c. c.1) same ∙ omega arith in
    record {
      same = ap₂ (λ d s. (d, s)) stores steps;
      stores = rw stores (largest_is most_visit_stores tasks some);
      steps = rw steps (largest_is most_visit_steps tasks some);
    }
