-- What a visit of a task can cost, over the task's paths.
use Rattle.std.specs.Prelude.{◌≡◌, ◌↔◌, ◌<◌, ◌≤◌, ◌⊎◌, true, ℕ, ◌+◌, ◌*◌, List, length, replicate, Ok, Err, Result}
use Rattle.std.specs.List.{count_by}
use Rattle.program.specs.declared.statement.Statement.{Statement}
use Rattle.program.specs.declared.statement.Index.{Index}
use Rattle.program.specs.Paths.{Logged, logged_test}
use Rattle.facts.specs.declared.most.Counts.{Counts}
use Rattle.facts.specs.declared.pass.ShortScratch.{ShortScratch}
use Rattle.facts.specs.declared.touched.Touches.{Touches}
use Rattle.facts.specs.declared.costs.TaskFacts.{TaskFacts}
use Rattle.facts.specs.Sets.{has, set_of, size, variables}
use Rattle.facts.specs.Most.{IsMost, most_over, no_counts}
use Rattle.facts.specs.Touched.{untouched}

-- the most emits, and the most sets of variables that are not logged, on a path
abbrev pub most_of_task : List Statement → Counts
most_of_task task = most_over (logged_test task) task

-- how many variables the task logs
abbrev pub logged_count : List Statement → ℕ
logged_count task = count_by (logged_test task) variables

-- The bound on a visit's stores, D, with so many emits, direct sets and logged variables.
abbrev pub stores_with : ℕ → ℕ → ℕ → ℕ
stores_with m w p = w + 4 * m + 4 * p + 18

-- The bound on its steps, S.
abbrev pub steps_with : ℕ → ℕ → ℕ
steps_with m p = 82 + 4 * m + 4 * p

-- D and S of a task
abbrev pub most_visit_stores : List Statement → ℕ
most_visit_stores task = let most = most_of_task task in stores_with most.emits most.direct (logged_count task)

abbrev pub most_visit_steps : List Statement → ℕ
most_visit_steps task = steps_with (most_of_task task).emits (logged_count task)

-- the same, with what the facts of a task say
abbrev pub stores_of : TaskFacts → ℕ
stores_of f = stores_with f.emits f.direct (size f.logged)

abbrev pub steps_of : TaskFacts → ℕ
steps_of f = steps_with f.emits (size f.logged)

-- The facts of a task: what the write-after-read rule logs, the most that its paths come to, and so the bounds of its visits.
pub record IsTaskFacts (task : List Statement) (f : TaskFacts) : Type 0 where
  pub logged : f.logged ≡ set_of (logged_test task)
  pub rule : (v : Index 48) → (has f.logged v.number ≡ true) ↔ Logged task v.number
  pub most : IsMost (has f.logged) task (record { emits = f.emits; direct = f.direct })
  pub visit_stores : stores_of f ≡ most_visit_stores task
  pub visit_steps : steps_of f ≡ most_visit_steps task

-- The facts of a task were found, and start facts stand throughout both scratches; or one of them is short, and both are as they were.
abbrev pub Found : List Statement → List Touches → List Counts → Result TaskFacts ShortScratch → List Touches → List Counts → Type 0
Found task touches counts (Ok f) touches′ counts′ =
    (64 ≤ length touches) × (64 ≤ length counts) × IsTaskFacts task f × (touches′ ≡ replicate (length touches) untouched) × (counts′ ≡ replicate (length counts) no_counts)
Found task touches counts (Err e) touches′ counts′ = ((length touches < 64) ⊎ (length counts < 64)) × (touches′ ≡ touches) × (counts′ ≡ counts)
