use Rattle.std.proofs.Common.{length}
use Rattle.text.specs.Reading.{lines_left}
use Rattle.rounds.specs.Rounds.{skip_round}
use Rattle.compile.proofs.Going.{Going}
use Rattle.compile.proofs.passes.check_skips.Given as goal

abbrev pub invariant-loop-line : goal.invariant-loop-line
invariant-loop-line l = Going skip_round (lines_left l.lines) (lines_left l.left)

abbrev pub decreases-loop-line : goal.decreases-loop-line
decreases-loop-line l = length (lines_left l.left)
