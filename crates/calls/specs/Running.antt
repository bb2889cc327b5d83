-- A running step: a step of the plain machine on what the attempt sees.
use Rattle.std.specs.Prelude.{◌≡◌, ℕ, ◌+◌, ◌^◌, ◌/◌, ◌%◌, Bool, cond, List, [], ◌∷◌, ◌++◌, length, map, replicate, None, Some, Option, slice_index, slice_index_or}
use Rattle.std.specs.List.{filter}
use Rattle.program.specs.declared.statement.Next.{Next}
use Rattle.program.specs.declared.statement.Statement.{Statement}
use Rattle.program.specs.declared.statement.Target.{Target}
use Rattle.program.specs.Paths.{◌∈◌, logged_test}
use Rattle.program.specs.Runs.{Run, next_word, passes}
use Rattle.program.specs.Shapes.{emits, targets, ways}
use Rattle.program.specs.Sound.{Source, task_of}
use Rattle.laws.specs.Views.{overlay}
use Rattle.facts.specs.declared.set.VariableSet.{VariableSet}
use Rattle.facts.specs.Sets.{empty, has, single, union, variables}
use Rattle.layout.specs.declared.store.Store.{Store}
use Rattle.layout.specs.Places.{length_place, next_place, number_high_place, number_low_place, record_place, variable_place}
use Rattle.calls.specs.Stages.{Attempt}
use Rattle.calls.specs.Words.{variables_in}

-- what a task logs, by the write-after-read rule
abbrev pub logs : Source → ℕ → ℕ → Bool
logs p t = logged_test (task_of p t)

-- The attempt that an accepted begin makes.
abbrev pub started : Source → ℕ → List ℕ → List ℕ → Attempt
started p t row ws = record { task = t; at = 0; inputs = row; locals = replicate 8 0; emitted = []; copies = overlay (logs p t) (variables_in p ws) (replicate 48 0); set = empty }

-- the statement that comes
abbrev pub coming : Source → Attempt → Statement
coming p a = slice_index_or (task_of p a.task) a.at Statement.Stop

-- What the attempt sees: a logged variable as its working copy, any other as its word in memory.
abbrev pub view : Source → Attempt → List ℕ → Run
view p a ws = record { inputs = a.inputs; variables = overlay (logs p a.task) a.copies (variables_in p ws); locals = a.locals; emitted = a.emitted; chosen = Next.Stopped }

-- the set, with the variable that the statement sets if it is logged
abbrev pub marked : (ℕ → Bool) → List Target → VariableSet → VariableSet
marked logged [] set = set
marked logged (Target.Variable v ∷ more) set = cond (logged v.number) (union set (single v.number)) set
marked logged (Target.Local l ∷ more) set = set

-- The store that the statement makes, after which the view is σ: of a variable that is not logged.
abbrev pub direct : (ℕ → Bool) → List Target → Run → Option Store
direct logged [] σ = None
direct logged (Target.Variable v ∷ more) σ = cond (logged v.number) None (Some (record { place = variable_place v.number; word = slice_index σ.variables v.number }))
direct logged (Target.Local l ∷ more) σ = None

-- The attempt after a statement that takes its view from σ to τ.
abbrev pub went_on : (ℕ → Bool) → Statement → Run → Run → Attempt → Attempt
went_on logged s σ τ a = record {
  task = a.task;
  at = a.at + 1 + passes s σ;
  inputs = a.inputs;
  locals = τ.locals;
  emitted = τ.emitted;
  copies = overlay logged τ.variables a.copies;
  set = marked logged (targets s) a.set;
}

-- What holds of the attempt b behind the statement that comes at a, whatever words were read.
pub record GoesOn (p : Source) (a b : Attempt) : Type 0 where
  pub task : b.task ≡ a.task
  pub over : ℕ
  pub way : over ∈ ways (coming p a)
  pub at : b.at ≡ a.at + 1 + over
  pub inputs : length b.inputs ≡ length a.inputs
  pub locals : length b.locals ≡ length a.locals
  pub emitted : length b.emitted ≡ length a.emitted + emits (coming p a)
  pub copies : length b.copies ≡ length a.copies
  pub set : b.set ≡ marked (logs p a.task) (targets (coming p a)) a.set

-- stores of these words, from a place on
abbrev pub stores_from : ℕ → List ℕ → List Store
stores_from p [] = []
stores_from p (w ∷ more) = record { place = p; word = w } ∷ stores_from (p + 1) more

-- the visit number that follows
abbrev pub following : ℕ → ℕ
following number = (number + 1) % 2 ^ 32

-- The entries of the variables in a set. They do not unfold by themselves: a goal with the 48 tests of a set in it is too large to search.
unfoldable pub set_entries : VariableSet → List ℕ → List Store
set_entries set copies = map (λ v. record { place = variable_place v; word = slice_index copies v }) (filter (has set) variables)

-- The entries of a commit, by rising places: the visit number that follows, what comes next, the record, and the logged variables that
-- were set.
abbrev pub entries : ℕ → Next → Attempt → List Store
entries number next a =
    record { place = number_low_place; word = following number % 65536 }
    ∷ record { place = number_high_place; word = following number / 65536 }
    ∷ record { place = next_place; word = next_word next }
    ∷ record { place = length_place; word = length a.emitted }
    ∷ stores_from record_place a.emitted
    ++ set_entries a.set a.copies
