-- `Visit::finish`: what its loop keeps, and the measure that falls.
use Rattle.std.proofs.Common.{◌≡◌, ◌-◌, length}
use Rattle.plain.specs.Steps.{standing, ends}
use Rattle.plain.proofs.visit.Visit.finish.Given as goal

-- what is left of the task ends the run as the whole does
abbrev pub invariant-loop : goal.invariant-loop
invariant-loop l = ends (standing l.self) ≡ ends (standing l.initial.self)

abbrev pub decreases-loop : goal.decreases-loop
decreases-loop l = length (standing l.self).task - (standing l.self).at
