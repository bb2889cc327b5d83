use Rattle.std.proofs.Common.{length}
use Rattle.text.specs.Reading.{lines_left}
use Rattle.grammar.specs.Standing.{point}
use Rattle.compile.proofs.Judging.{Judging}
use Rattle.compile.proofs.passes.judge_lines.Given as goal

abbrev pub invariant-loop-line : goal.invariant-loop-line
invariant-loop-line l = Judging (lines_left l.lines) (lines_left l.left) (point l.standing)

abbrev pub decreases-loop-line : goal.decreases-loop-line
decreases-loop-line l = length (lines_left l.left)
