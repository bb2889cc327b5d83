-- `task_count`: what its loop keeps.
use Rattle.std.proofs.Common.{◌≤◌, length}
use Rattle.program.specs.Programs.{program_source}
use Rattle.rules.proofs.rules.make.task_count.Given as goal

-- the program has the tasks that it has passed
abbrev pub invariant-loop-number : goal.invariant-loop-number
invariant-loop-number l = l.number ≤ length (program_source l.program).tasks
