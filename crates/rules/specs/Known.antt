-- The facts of a program's tasks, and the bounds of its visits.
use Rattle.std.specs.Prelude.{◌≡◌, ℕ, ◌<◌, ◌≤◌, List, length, max, None, Some, Option}
use Rattle.program.specs.declared.statement.Statement.{Statement}
use Rattle.program.specs.Paths.{logged_test}
use Rattle.program.specs.Sound.{Source, task_of}
use Rattle.facts.specs.declared.costs.TaskFacts.{TaskFacts}
use Rattle.facts.specs.Bounds.{IsTaskFacts, most_of_task, most_visit_stores, most_visit_steps, stores_of, steps_of}
use Rattle.facts.specs.Most.{IsLargest, largest}
use Rattle.facts.specs.Sets.{set_of}

-- The facts of a task, over its paths: what the write-after-read rule logs, and the most that the paths emit and store.
-- It does not unfold by itself: a goal with the 48 tests of a set in it is too large to search.
unfoldable pub task_facts : List Statement → TaskFacts
task_facts task = record { logged = set_of (logged_test task); emits = (most_of_task task).emits; direct = (most_of_task task).direct }

-- f are the facts of task t, which the program has
pub record AreFacts (p : Source) (t : ℕ) (f : TaskFacts) : Type 0 where
  pub there : t < length p.tasks
  pub same : f ≡ task_facts (task_of p t)
  pub facts : IsTaskFacts (task_of p t) f

-- The facts of task t are told, or the program has no such task.
abbrev pub FactsTold : Source → ℕ → Option TaskFacts → Type 0
FactsTold p t (Some f) = AreFacts p t f
FactsTold p t None = length p.tasks ≤ t

-- b has D and then S of a program: each is the largest over the tasks, by itself. No task comes to more, and some task comes to as
-- much.
pub record AreBounds (p : Source) (b : ℕ × ℕ) : Type 0 where
  pub same : b ≡ (largest most_visit_stores p.tasks, largest most_visit_steps p.tasks)
  pub stores : IsLargest most_visit_stores p.tasks b.0
  pub steps : IsLargest most_visit_steps p.tasks b.1

-- the larger of each bound and what the facts of one task more allow
unfoldable pub larger_bounds : ℕ × ℕ → TaskFacts → ℕ × ℕ
larger_bounds b f = (max b.0 (stores_of f), max b.1 (steps_of f))
