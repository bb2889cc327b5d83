-- `scan`: what was found so far is what is in doubt of the words below the place.
use Rattle.std.proofs.Common.{◌≡◌, true, Ok}
use Rattle.cells.specs.Three.{judged, unequal}
use Rattle.three_cell.proofs.making.scan.Given as goal

abbrev pub invariant-loop-place : goal.invariant-loop-place
invariant-loop-place g l = g.M.Memory.lawful l.below → (g.M.Memory.seen l.below).lit ≡ true → Ok l.found ≡ judged (unequal (g.M.Memory.seen l.below).words l.place)
