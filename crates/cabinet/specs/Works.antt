-- What a statement does once its operands are read, and what that does to its attempt.
use Rattle.std.specs.Prelude.{◌≡◌, ℕ, ◌+◌, ◌-◌, ◌^◌, Bool, cond, None, Some, Option, min, slice_set}
use Rattle.words.specs.Lists.{pushed}
use Rattle.program.specs.declared.statement.Next.{Next}
use Rattle.program.specs.declared.statement.Statement.{Statement}
use Rattle.program.specs.declared.statement.Target.{Target}
use Rattle.program.specs.Runs.{Run, holds, result_of, value}
use Rattle.facts.specs.declared.set.VariableSet.{VariableSet}
use Rattle.facts.specs.Sets.{has, single, union}
use Rattle.layout.specs.declared.store.Store.{Store}
use Rattle.layout.specs.Places.{variable_place}
use Rattle.calls.specs.Stages.{Attempt}
use Rattle.cabinet.specs.declared.work.Work.{Work}

-- the work of a statement on a run
unfoldable pub work_of : Statement → Run → Work
work_of Statement.Stop σ = Work.End Next.Stopped
work_of (Statement.Set n a o b) σ = Work.Set n (result_of o (value σ a) (value σ b))
work_of (Statement.Emit a) σ = Work.Emit (value σ a)
work_of (Statement.Skip k t) σ = Work.Pass (cond (holds σ t) k.count 0)
work_of (Statement.Next t) σ = Work.End (Next.Task t)
work_of (Statement.Choose c t u) σ = Work.End (Next.Task (cond (holds σ c) t u))

-- It is one of the statement's, whatever words were read.
abbrev pub OfKind : Statement → Work → Type 0
OfKind Statement.Stop w = w ≡ Work.End Next.Stopped
OfKind (Statement.Set n a o b) w = (x : ℕ) × (w ≡ Work.Set n x)
OfKind (Statement.Emit a) w = (x : ℕ) × (w ≡ Work.Emit x)
OfKind (Statement.Skip k t) w = (over : Bool) × (w ≡ Work.Pass (cond over k.count 0))
OfKind (Statement.Next t) w = w ≡ Work.End (Next.Task t)
OfKind (Statement.Choose c t u) w = (then : Bool) × (w ≡ Work.End (Next.Task (cond then t u)))

-- how many statements it passes over
abbrev pub passed : Work → ℕ
passed (Work.Set n x) = 0
passed (Work.Emit x) = 0
passed (Work.Pass k) = k
passed (Work.End n) = 0

-- the store that it makes: of a variable that is not logged
abbrev pub store_of : VariableSet → Work → Option Store
store_of logged (Work.Set (Target.Variable v) x) = cond (has logged v.number) None (Some (record { place = variable_place v.number; word = x }))
store_of logged (Work.Set (Target.Local l) x) = None
store_of logged (Work.Emit x) = None
store_of logged (Work.Pass k) = None
store_of logged (Work.End n) = None

-- a working copy altered, and its variable marked as set
abbrev pub set_copy : ℕ → ℕ → Attempt → Attempt
set_copy v x a = record a { copies = slice_set a.copies v x; set = union a.set (single v) }

-- what it does to what the attempt remembers
abbrev pub done : VariableSet → Work → Attempt → Attempt
done logged (Work.Set (Target.Variable v) x) a = cond (has logged v.number) (set_copy v.number x a) a
done logged (Work.Set (Target.Local l) x) a = record a { locals = slice_set a.locals l.number x }
done logged (Work.Emit x) a = record a { emitted = pushed 8 a.emitted x }
done logged (Work.Pass k) a = a
done logged (Work.End n) a = a

-- The attempt behind a statement with this work. A position has 64 bits.
unfoldable pub worked : VariableSet → Work → Attempt → Attempt
worked logged w a = record (done logged w a) { at = min (a.at + 1 + passed w) (2 ^ 64 - 1) }
