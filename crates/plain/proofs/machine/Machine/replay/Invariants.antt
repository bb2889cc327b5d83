-- `Machine::replay`: what its loop keeps.
use Rattle.std.proofs.Common.{◌≡◌}
use Rattle.program.specs.Programs.{program_source}
use Rattle.plain.specs.Series.{after_rows, row_at}
use Rattle.plain.specs.Machines.{running}
use Rattle.plain.proofs.machine.Machine.replay.Given as goal

-- the machine after a visit for each row so far
abbrev pub invariant-loop-row : goal.invariant-loop-row
invariant-loop-row l =
    ((running l.machine).program ≡ l.program)
    × ((running l.machine).state ≡ after_rows (program_source l.program) (row_at l.rows) l.row-index)
