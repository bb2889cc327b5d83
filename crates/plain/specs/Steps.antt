-- A visit under way, one statement after the other.
use Rattle.std.specs.Prelude.{ℕ, ◌+◌, List, drop, Some, None, Option}
use Rattle.std.specs.List.{slice_get}
use Rattle.program.specs.declared.statement.Statement.{Statement}
use Rattle.program.specs.Runs.{Run, after, passes, exec}
use Rattle.program.specs.Sound.{task_of}
use Rattle.program.specs.Programs.{program_source}
use Rattle.plain.specs.declared.visit.Visit.{Visit}
use Rattle.plain.specs.Frames.{run_of}
use Rattle.plain.specs.Plain.{begun}

-- a run that has come to the statement at i of its task
pub record Standing : Type 0 where
  pub task : List Statement
  pub at : ℕ
  pub run : Run

abbrev pub standing : Visit → Standing
standing v = record { task = task_of (program_source v.program.now) v.task.number; at = v.at; run = run_of v.frame }

-- before the first statement
abbrev pub starting : List Statement → List ℕ → List ℕ → Standing
starting task row variables = record { task = task; at = 0; run = begun row variables }

-- the statement that comes, if the task is not over
abbrev pub coming : Standing → Option Statement
coming p = slice_get p.task p.at

-- one statement on; past the ending nothing alters
abbrev pub step_by : Standing → Option Statement → Standing
step_by p (Some s) = record { task = p.task; at = p.at + 1 + passes s p.run; run = after s p.run }
step_by p None = p

abbrev pub stepped : Standing → Standing
stepped p = step_by p (coming p)

-- where the run ends
abbrev pub ends : Standing → Run
ends p = exec 0 (drop p.at p.task) p.run
