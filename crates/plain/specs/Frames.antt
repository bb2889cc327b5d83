-- A frame as the run that it holds.
use Rattle.std.specs.Prelude.{ℕ, ◌+◌, ◌≤◌, List, length, drop}
use Rattle.words.specs.Lists.{items}
use Rattle.program.specs.declared.statement.Statement.{Statement}
use Rattle.program.specs.Runs.{Run, taken}
use Rattle.program.specs.Paths.{emitted_on}
use Rattle.plain.specs.declared.frame.Frame.{Frame}

abbrev pub run_of : Frame → Run
run_of f = record { inputs = f.inputs; variables = items f.variables; locals = f.locals; emitted = items f.emitted; chosen = f.chosen }

-- the record has room for what the rest of the task, from the statement at i on, adds to it
abbrev pub Room : List Statement → ℕ → Frame → Type 0
Room task i f = length (items f.emitted) + emitted_on (taken 0 (drop i task) (run_of f)) ≤ 8
