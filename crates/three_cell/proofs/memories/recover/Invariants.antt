-- `recover`: the words below the place are mended, of the memory as it was relit.
use Rattle.std.proofs.Common.{◌≡◌, true}
use Rattle.cells.proofs.Kept.{Mending}
use Rattle.three_cell.proofs.memories.recover.Given as goal

abbrev pub invariant-loop-place : goal.invariant-loop-place
invariant-loop-place g l =
    (g.M.Memory.lawful l.initial.below → (g.M.Memory.seen l.initial.below).lit ≡ true → g.M.Memory.lawful l.below × Mending (g.M.Memory.seen l.initial.below) l.place (g.M.Memory.seen l.below))
    × g.M.Memory.given l.below l.scrap
