-- `store_from`: what its loop keeps.
use Rattle.std.proofs.Common.{◌≡◌}
use Rattle.cabinet.specs.Laying.{ScrapStays}
use Rattle.cabinet.proofs.Laying.{rest_answer, rest_left}
use Rattle.cabinet.proofs.lay.store_from.Given as goal

-- the other stores answer and leave what all answer and leave
abbrev pub invariant-loop-k : goal.invariant-loop-k
invariant-loop-k g l =
    (g.M.Memory.lawful l.initial.memory → g.M.Memory.lawful l.memory
    × (rest_answer l.place l.words 0 (g.M.Memory.seen l.initial.memory) ≡ rest_answer l.place l.words l.k (g.M.Memory.seen l.memory))
    × (rest_left l.place l.words 0 (g.M.Memory.seen l.initial.memory) ≡ rest_left l.place l.words l.k (g.M.Memory.seen l.memory)))
    × ScrapStays g.M.Memory l.initial.memory l.memory
