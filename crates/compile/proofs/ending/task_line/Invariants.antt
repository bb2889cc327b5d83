use Rattle.std.proofs.Common.{length}
use Rattle.text.specs.Reading.{lines_left}
use Rattle.compile.proofs.Places.{Seeking}
use Rattle.compile.proofs.ending.task_line.Given as goal

abbrev pub invariant-loop-line : goal.invariant-loop-line
invariant-loop-line l = Seeking (lines_left l.lines) (lines_left l.left) l.task.number l.passed

abbrev pub decreases-loop-line : goal.decreases-loop-line
decreases-loop-line l = length (lines_left l.left)
