-- Lines of tasks: those of so many names are written.
use Rattle.std.proofs.Common.{take}
use Rattle.std.specs.Fmt.{HasWritten, IsPlainFormatter}
use Rattle.program.specs.Programs.{program_source}
use Rattle.grammar.specs.Names.{bytes_of, declared}
use Rattle.fit.specs.Printed.{task_lines}
use Rattle.fit.proofs.acceptance.TaskLinesDisplay.fmt.Given as goal

abbrev pub invariant-loop-number : goal.invariant-loop-number
invariant-loop-number g l =
    IsPlainFormatter l.initial.f
    → HasWritten g.W.Write.write_str_gives l.initial.f (task_lines (declared l.self.names.now).variables (bytes_of (take l.number l.name-items)) (program_source l.self.rules.now.program).tasks) l.f
