-- What a running step reads and does.
use Rattle.std.specs.Prelude.{◌≡◌, ℕ, ◌<◌, Bool, true, Err, IfOk, List, None, Ok, Result, length, slice_index}
use Rattle.memory.specs.declared.fault.Fault.{Fault}
use Rattle.memory.specs.declared.interface.Memory.{Ghosts}
use Rattle.program.specs.declared.statement.Index.{Index}
use Rattle.program.specs.declared.statement.Next.{Next}
use Rattle.program.specs.declared.statement.Operand.{Operand}
use Rattle.program.specs.declared.statement.Statement.{Statement}
use Rattle.program.specs.declared.statement.Test.{Test}
use Rattle.program.specs.Runs.{Run, holds, value}
use Rattle.program.specs.Sound.{Source, declared, operand_declared, scope_of}
use Rattle.laws.specs.Views.{overlay}
use Rattle.facts.specs.declared.set.VariableSet.{VariableSet}
use Rattle.facts.specs.Sets.{has}
use Rattle.calls.specs.Lawful.{attempt_fits, stage_fits}
use Rattle.calls.specs.Running.{coming, entries}
use Rattle.calls.specs.Stages.{Attempt, Stage}
use Rattle.calls.specs.Steps as value
use Rattle.calls.specs.Steps.{running_turn}
use Rattle.calls.specs.Words.{number_in, variables_in}
use Rattle.cabinet.specs.declared.cabinet.Cabinet.{Cabinet}
use Rattle.cabinet.specs.declared.state.Turn.{Turn}
use Rattle.cabinet.specs.declared.work.Work.{Work}
use Rattle.cabinet.specs.Cabinets.{source}
use Rattle.cabinet.specs.Reads.{Reads}
use Rattle.cabinet.specs.Starting.{IsLogged}
use Rattle.cabinet.specs.States.{stage_of}
use Rattle.cabinet.specs.Works.{store_of, work_of, worked}

-- A turn as a value.
abbrev pub turn_of : Turn → value.Turn
turn_of t = record { store = t.store; then = stage_of t.then }

-- the turn that was found, or the fault that was met
abbrev pub turned : Result Turn Fault → Result value.Turn Fault
turned (Ok t) = Ok (turn_of t)
turned (Err e) = Err e

-- Of the words from here on, those that do not unfold by themselves would make goals too large to search: they hold tests over all
-- paths of a task, or over all variables.

-- whether an attempt fits the program
unfoldable pub fits : Source → Attempt → Bool
fits p a = attempt_fits p a

-- whether a turn leads to a state that fits the program
unfoldable pub turn_fits : Source → value.Turn → Bool
turn_fits p t = stage_fits p t.then

-- the statement that comes
unfoldable pub comes : Source → Attempt → Statement
comes p a = coming p a

-- What an attempt sees where these variables are logged: where they are what its task logs, its view.
unfoldable pub sees : Source → VariableSet → Attempt → List ℕ → Run
sees p logged a ws = record { inputs = a.inputs; variables = overlay (has logged) a.copies (variables_in p ws); locals = a.locals; emitted = a.emitted; chosen = Next.Stopped }

-- the turn of a work that is no end
unfoldable pub on_turn : VariableSet → Work → Attempt → value.Turn
on_turn logged w a = value.turn (store_of logged w) (Stage.Running (worked logged w a))

-- the turn of an ending
unfoldable pub end_turn : ℕ → Next → Attempt → value.Turn
end_turn number next a = value.turn None (Stage.Logging (entries number next a) 0)

-- the turn of any work
abbrev pub turn_with : VariableSet → Work → Attempt → List ℕ → value.Turn
turn_with logged (Work.Set n x) a ws = on_turn logged (Work.Set n x) a
turn_with logged (Work.Emit x) a ws = on_turn logged (Work.Emit x) a
turn_with logged (Work.Pass k) a ws = on_turn logged (Work.Pass k) a
turn_with logged (Work.End n) a ws = end_turn (number_in ws) n a

-- the turn of a running step where these variables are logged
unfoldable pub turn_seen : Source → VariableSet → Attempt → List ℕ → value.Turn
turn_seen p logged a ws = turn_with logged (work_of (comes p a) (sees p logged a ws)) a ws

module _ {M : Type 0} (memory : Ghosts M) where
  abbrev words : Cabinet M memory → List ℕ
  words c = (memory.seen c.memory).words

  -- A variable that is declared has its word in what the attempt sees.
  abbrev pub ReadsVariable : Cabinet M memory → Attempt → VariableSet → Index 48 → Result ℕ Fault → Type 0
  ReadsVariable c a logged v r =
      let p = source c.rules.now in
      fits p a ≡ true → v.number < length p.firsts → Reads memory c (slice_index (sees p logged a (words c)).variables v.number) r

  -- An operand that is declared has its value there.
  abbrev pub ReadsValue : Cabinet M memory → Attempt → VariableSet → Operand → Result ℕ Fault → Type 0
  ReadsValue c a logged o r =
      let p = source c.rules.now in
      fits p a ≡ true → operand_declared (scope_of p) o ≡ true → Reads memory c (value (sees p logged a (words c)) o) r

  -- A test of two such holds there or does not.
  abbrev pub ReadsHolds : Cabinet M memory → Attempt → VariableSet → Test → Result Bool Fault → Type 0
  ReadsHolds c a logged t r =
      let p = source c.rules.now in
      fits p a ≡ true → operand_declared (scope_of p) t.left ≡ true → operand_declared (scope_of p) t.right ≡ true → Reads memory c (holds (sees p logged a (words c)) t) r

  -- The work of a statement that is declared.
  abbrev pub ReadsWork : Cabinet M memory → Attempt → VariableSet → Statement → Result Work Fault → Type 0
  ReadsWork c a logged s r =
      let p = source c.rules.now in
      fits p a ≡ true → declared (scope_of p) s ≡ true → Reads memory c (work_of s (sees p logged a (words c))) r

  -- The turn of the statement that comes.
  abbrev pub ReadsTurn : Cabinet M memory → Attempt → VariableSet → Result Turn Fault → Type 0
  ReadsTurn c a logged r =
      let p = source c.rules.now in
      fits p a ≡ true → Reads memory c (turn_seen p logged a (words c)) (turned r)

  -- It leads to a state that fits the program, whatever words were read.
  abbrev pub TurnFits : Cabinet M memory → Attempt → VariableSet → Result Turn Fault → Type 0
  TurnFits c a logged r =
      let p = source c.rules.now in
      fits p a ≡ true → IsLogged p a.task logged → IfOk r (λ t. turn_fits p (turn_of t) ≡ true)

  -- THE RUNNING STEP, of an attempt that fits the program: its turn is a plain step on the view.
  abbrev pub Runs : Cabinet M memory → Attempt → Result Turn Fault → Type 0
  Runs c a r =
      let p = source c.rules.now in
      attempt_fits p a ≡ true → Reads memory c (running_turn p a (words c)) (turned r)

  -- It leads to a state that fits the program, whatever words were read.
  abbrev pub RunFits : Cabinet M memory → Attempt → Result Turn Fault → Type 0
  RunFits c a r =
      let p = source c.rules.now in
      attempt_fits p a ≡ true → IfOk r (λ t. stage_fits p (stage_of t.then) ≡ true)
