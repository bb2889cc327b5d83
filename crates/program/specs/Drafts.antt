-- What a draft says, and what each step of its making adds to that.
use Rattle.std.specs.Prelude.{◌≡◌, ℕ, ◌+◌, ◌<◌, ◌≤◌, ◌⊎◌, List, [], ◌∷◌, ◌++◌, map, length, true, false, Ok, Err, Result}
use Rattle.words.specs.Lists.{items}
use Rattle.program.specs.declared.statement.Index.{Index}
use Rattle.program.specs.declared.statement.Statement.{Statement}
use Rattle.program.specs.declared.draft.Draft.{Draft}
use Rattle.program.specs.Spans.{part}
use Rattle.program.specs.declared.draft.build.Flaw.{Flaw}
use Rattle.program.specs.Sound.{Source, sound_at, total}

abbrev pub source_of : Draft → Source
source_of d = record {
  firsts = items d.firsts;
  locals = d.locals;
  tasks = map (part (items d.statements)) (items d.spans);
}

-- nothing yet
abbrev pub blank : Source
blank = record { firsts = []; locals = 0; tasks = [] }

-- a variable more, with its first value
abbrev pub with_variable : ℕ → Source → Source
with_variable first p = record { firsts = p.firsts ++ first ∷ []; locals = p.locals; tasks = p.tasks }

-- a local more
abbrev pub with_local : Source → Source
with_local p = record { firsts = p.firsts; locals = p.locals + 1; tasks = p.tasks }

-- a task more, as yet without statements
abbrev pub with_task : Source → Source
with_task p = record { firsts = p.firsts; locals = p.locals; tasks = p.tasks ++ [] ∷ [] }

-- every task is well formed
pub record NoneIsFlawed (p : Source) : Type 0 where
  pub each : (u : ℕ) → u < length p.tasks → sound_at p u ≡ true

-- task t is the first that is not well formed
pub record IsFirstFlawed (p : Source) (t : ℕ) : Type 0 where
  pub there : t < length p.tasks
  pub before : (u : ℕ) → u < t → sound_at p u ≡ true
  pub flawed : sound_at p t ≡ false

-- A declaration of one of at most N is taken and gets its number; or it is refused, since there are N, with nothing altered.
abbrev pub Adds : {N : ℕ} → ℕ → Flaw → Source → Source → Result (Index N) Flaw → Source → Type 0
Adds count flaw p grown (Ok i) q = (i.number ≡ count) × (q ≡ grown)
Adds {N} count flaw p grown (Err e) q = (N ≤ count) × (e ≡ flaw) × (q ≡ p)

abbrev pub DeclaresVariable : ℕ → Source → Result (Index 48) Flaw → Source → Type 0
DeclaresVariable first p r q = Adds (length p.firsts) Flaw.Variables p (with_variable first p) r q

abbrev pub DeclaresLocal : Source → Result (Index 8) Flaw → Source → Type 0
DeclaresLocal p r q = Adds p.locals Flaw.Locals p (with_local p) r q

abbrev pub DeclaresTask : Source → Result (Index 16) Flaw → Source → Type 0
DeclaresTask p r q = Adds (length p.tasks) Flaw.Tasks p (with_task p) r q

-- a statement more in the last task
abbrev pub onto_last : Statement → List (List Statement) → List (List Statement)
onto_last s [] = []
onto_last s (task ∷ []) = (task ++ s ∷ []) ∷ []
onto_last s (task ∷ (next ∷ more)) = task ∷ onto_last s (next ∷ more)

abbrev pub with_statement : Statement → Source → Source
with_statement s p = record { firsts = p.firsts; locals = p.locals; tasks = onto_last s p.tasks }

-- the statements of the last task
abbrev pub last_task : List (List Statement) → List Statement
last_task [] = []
last_task (task ∷ []) = task
last_task (task ∷ (next ∷ more)) = last_task (next ∷ more)

-- the last task has 64 statements, or the tasks have 256 in all
abbrev pub NoRoom : Source → Type 0
NoRoom p = (64 ≤ length (last_task p.tasks)) ⊎ (256 ≤ total p.tasks)

-- A statement is taken; or it is refused, without a task or without room, with nothing altered.
abbrev pub Taken : Source → Statement → Result (Unit {0}) Flaw → Source → Type 0
Taken p s (Ok _) q = (0 < length p.tasks) × (NoRoom p → ⊥) × (q ≡ with_statement s p)
Taken p s (Err e) q = (q ≡ p) × (((e ≡ Flaw.NoTask) × (length p.tasks ≡ 0)) ⊎ ((e ≡ Flaw.Statements) × (0 < length p.tasks) × NoRoom p))
