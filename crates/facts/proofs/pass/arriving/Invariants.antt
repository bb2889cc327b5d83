-- `arriving`: what its loop keeps.
use Rattle.facts.specs.Joins.{IsJoin}
use Rattle.facts.proofs.Leading.{LeadsBelow}
use Rattle.facts.proofs.pass.arriving.Given as goal

-- the fact joins what left the statement before and, of the places below this one, each that leads here
abbrev pub invariant-loop-from : goal.invariant-loop-from
invariant-loop-from g l = IsJoin (g.K.Kind.join l.kind) (LeadsBelow l.task l.after l.at l.from) l.fact
