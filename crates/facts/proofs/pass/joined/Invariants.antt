-- `joined`: what its loop keeps.
use Rattle.facts.specs.Joins.{IsJoin}
use Rattle.facts.proofs.Arrivals.{Arrives, Filled}
use Rattle.facts.proofs.pass.joined.Given as goal

-- the fact joins what arrives at this place, and the scratch has what left each place below
abbrev pub invariant-loop-at : goal.invariant-loop-at
invariant-loop-at g l =
    let k = g.K.Kind in
    IsJoin (k.join l.kind) (Arrives (k.start l.kind) (k.effect l.kind) l.task l.at) l.fact
    × Filled (k.start l.kind) (k.effect l.kind) (k.join l.kind) l.task l.scratch l.at
