-- A cabinet as a value: its program, its memory, its state, and the task last read.
use Rattle.std.specs.Prelude.{ℕ, List}
use Rattle.memory.specs.Value.{Value}
use Rattle.program.specs.declared.statement.Next.{Next}
use Rattle.program.specs.Sound.{Source}
use Rattle.facts.specs.declared.set.VariableSet.{VariableSet}
use Rattle.layout.specs.declared.store.Store.{Store}
use Rattle.calls.specs.declared.due.Due.{Due}
use Rattle.calls.specs.declared.refusal.Phase.{Phase}

-- An attempt at a visit: a task that runs.
pub record Attempt : Type 0 where
  pub task : ℕ
  -- the statement that comes
  pub at : ℕ
  pub inputs : List ℕ
  pub locals : List ℕ
  -- the record so far
  pub emitted : List ℕ
  -- a working copy of each logged variable, at the variable's number
  pub copies : List ℕ
  -- the logged variables that were set
  pub set : VariableSet

-- A state, with what is remembered in it.
pub data Stage : Type 0 where
  Settled : Stage
  Rest : Stage
  Running : Attempt → Stage
  -- the entries of the commit, and how many of their words are stored
  Logging : List Store → ℕ → Stage
  Applying : Due → Stage
  Dark : Stage

-- the state alone
abbrev pub phase : Stage → Phase
phase Settled = Phase.Settled
phase Rest = Phase.Rest
phase (Running a) = Phase.Running
phase (Logging es k) = Phase.Logging
phase (Applying due) = Phase.Applying
phase Dark = Phase.Dark

-- What a cabinet is.
pub record Held : Type 0 where
  pub program : Source
  pub memory : Value
  pub stage : Stage
  -- the task last read
  pub task : Next
