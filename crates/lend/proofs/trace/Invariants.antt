-- `trace`: the measure of its loop.
use Rattle.std.proofs.Common.{◌-◌, length}
use Rattle.plain.specs.Steps.{standing}
use Rattle.lend.proofs.trace.Given as goal

-- how many statements stand from the one that comes on
abbrev pub decreases-loop-statement : goal.decreases-loop-statement
decreases-loop-statement g l = length (standing l.visit).task - (standing l.visit).at
