-- `clear`: what its loop keeps.
use Rattle.std.proofs.Common.{◌≡◌, replicate, take}
use Rattle.facts.proofs.pass.clear.Given as goal

-- the places so far hold start facts
abbrev pub invariant-loop-place : goal.invariant-loop-place
invariant-loop-place g l = take l.place-index l.scratch ≡ replicate l.place-index l.start
