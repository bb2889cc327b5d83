use Rattle.std.proofs.Common.{length}
use Rattle.program.specs.Drafts.{source_of}
use Rattle.text.specs.Reading.{lines_left}
use Rattle.compile.proofs.Saying.{Saying}
use Rattle.compile.proofs.reading.read_program.Given as goal

abbrev pub invariant-loop-line : goal.invariant-loop-line
invariant-loop-line l = Saying (lines_left l.lines) (lines_left l.left) (source_of l.draft)

abbrev pub decreases-loop-line : goal.decreases-loop-line
decreases-loop-line l = length (lines_left l.left)
