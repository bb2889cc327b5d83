-- The facts of a task, by their definition, and those that a list has of each task.
use Rattle.std.proofs.Common.{◌≡◌, ℕ, List, [], map, length, sym, refl, ap, ◌∙◌, subst, inl, inr}
use Rattle.std.specs.Prelude.{None, Some, Option}
use Rattle.std.specs.List.{slice_get}
use Rattle.std.specs.Option.{option_map}
use Rattle.std.proofs.lemmas.Bool.{cases_lt}
use Rattle.std.proofs.lemmas.Option.{slice_get-map, slice_get-get_or, slice_get_past}
use Rattle.words.specs.Lists.{items}
use Rattle.program.specs.declared.statement.Statement.{Statement}
use Rattle.program.specs.Paths.{logged_test}
use Rattle.program.specs.Programs.{program_source}
use Rattle.program.specs.Sound.{Source, task_of}
use Rattle.facts.specs.declared.costs.TaskFacts.{TaskFacts}
use Rattle.facts.specs.declared.most.Counts.{Counts}
use Rattle.facts.specs.Bounds.{IsTaskFacts, most_of_task}
use Rattle.facts.specs.Most.{IsMost, most_over}
use Rattle.facts.specs.Sets.{has, set_of}
use Rattle.facts.specs.Touched.{touched_over}
use Rattle.facts.proofs.Sets.{has_of}
use Rattle.facts.proofs.MostPaths.{most_is_largest, most_over_same}
use Rattle.facts.proofs.TaskFacts.{both_right}
use Rattle.facts.proofs.TouchedOver.{rule_kept}
use Rattle.rules.specs.declared.rules.Rules.{Rules}
use Rattle.rules.specs.Known.{FactsTold, task_facts}

-- the most with the logged set, and with the test that it is of
same_most : (task : List Statement) → most_over (has (set_of (logged_test task))) task ≡ most_of_task task
same_most task = most_over_same (has (set_of (logged_test task))) (logged_test task) (has_of (logged_test task)) task

pub facts_right : (task : List Statement) → IsTaskFacts task (task_facts task)
unfolding task_facts
facts_right task =
    let most : IsMost (has (set_of (logged_test task))) task (most_of_task task) =
    subst (IsMost (has (set_of (logged_test task))) task) (same_most task) (most_is_largest (has (set_of (logged_test task))) task) in
    both_right task (touched_over task) (most_of_task task) (record { sets = refl; rule = rule_kept task }) most

-- what is right is what the definition says
pub facts_same : (task : List Statement) (f : TaskFacts) → IsTaskFacts task f → f ≡ task_facts task
unfolding task_facts
facts_same task f right =
    let sets : f.logged ≡ set_of (logged_test task) = right.logged in
    let counts : (let c : Counts = record { emits = f.emits; direct = f.direct } in c) ≡ most_of_task task =
    right.most.counts ∙ ap (λ s. most_over (has s) task) sets ∙ same_most task in
    λ i. record { logged = sets i; emits = (counts i).emits; direct = (counts i).direct }

-- what a list of the facts of each task has at a place
told_at : (p : Source) (xs : List TaskFacts) (t : ℕ) → xs ≡ map task_facts p.tasks → FactsTold p t (slice_get xs t)
told_at p xs t e =
    let at : slice_get xs t ≡ slice_get (map task_facts p.tasks) t = ap (λ l. slice_get l t) e in
    elim (cases_lt t (length p.tasks)) [
      | inl h ↦
          let some : slice_get xs t ≡ Some (task_facts (task_of p t)) = at ∙ slice_get-map task_facts p.tasks t ∙ ap (λ o. option_map task_facts o) (slice_get-get_or p.tasks t [] h) in
          subst (FactsTold p t) (sym some) (record { there = h; same = refl; facts = facts_right (task_of p t) })
      | inr h ↦
          let none : slice_get xs t ≡ None = at ∙ slice_get-map task_facts p.tasks t ∙ ap (λ o. option_map task_facts o) (slice_get_past p.tasks t h) in
          subst (FactsTold p t) (sym none) h
    ]

pub told : (rules : Rules) (t : ℕ) (r : Option TaskFacts) → r ≡ slice_get (items rules.facts) t → FactsTold (program_source rules.program) t r
told rules t r at = subst (FactsTold (program_source rules.program) t) (sym at) (told_at (program_source rules.program) (items rules.facts) t rules.known)
