-- What a most fact holds: along a path, where paths meet, and over all paths of a task.
use Rattle.std.specs.Prelude.{◌≡◌, ℕ, ◌+◌, ◌≤◌, Bool, false, not, List, [], ◌∷◌, max, min}
use Rattle.std.specs.List.{count_by}
use Rattle.program.specs.declared.statement.Target.{Target}
use Rattle.program.specs.declared.statement.Statement.{Statement}
use Rattle.program.specs.Shapes.{emits, targets}
use Rattle.program.specs.Paths.{paths, ◌∈◌, emitted_on}
use Rattle.facts.specs.declared.most.Counts.{Counts}

-- the target is a variable outside the logged ones
abbrev pub is_direct : (ℕ → Bool) → Target → Bool
is_direct logged (Target.Variable v) = not (logged v.number)
is_direct logged (Target.Local l) = false

-- how many variables outside the logged ones the statement sets: one or none
abbrev pub direct : (ℕ → Bool) → Statement → ℕ
direct logged s = count_by (is_direct logged) (targets s)

-- how many sets of such variables the path makes
abbrev pub direct_on : (ℕ → Bool) → List Statement → ℕ
direct_on logged [] = 0
direct_on logged (s ∷ π) = direct logged s + direct_on logged π

abbrev pub no_counts : Counts
no_counts = record { emits = 0; direct = 0 }

-- n more; a path has at most 64 statements, so that no count comes near 255
abbrev pub more : ℕ → ℕ → ℕ
more n count = min (count + n) 255

-- after a statement
abbrev pub counted : (ℕ → Bool) → Statement → Counts → Counts
counted logged s c = record { emits = more (emits s) c.emits; direct = more (direct logged s) c.direct }

-- where two paths meet
abbrev pub larger : Counts → Counts → Counts
larger a b = record { emits = max a.emits b.emits; direct = max a.direct b.direct }

-- the largest of what the paths come to
abbrev pub largest : (List Statement → ℕ) → List (List Statement) → ℕ
largest count [] = 0
largest count (π ∷ more) = max (count π) (largest count more)

-- over all paths, each the largest by itself
abbrev pub most_over : (ℕ → Bool) → List Statement → Counts
most_over logged task = record { emits = largest emitted_on (paths 0 task); direct = largest (direct_on logged) (paths 0 task) }

-- n is the largest: no path comes to more, and some path comes to as much
pub record IsLargest (count : List Statement → ℕ) (πs : List (List Statement)) (n : ℕ) : Type 0 where
  pub none_more : (π : List Statement) → π ∈ πs → count π ≤ n
  pub some_as_many : (π : List Statement) × (π ∈ πs) × (count π ≡ n)

-- c is the most that the task's paths come to: no path emits more, and some path emits as much; and so for the sets
pub record IsMost (logged : ℕ → Bool) (task : List Statement) (c : Counts) : Type 0 where
  pub counts : c ≡ most_over logged task
  pub emits : IsLargest emitted_on (paths 0 task) c.emits
  pub direct : IsLargest (direct_on logged) (paths 0 task) c.direct
