-- `Cabinet::record_words`: what its loop keeps.
use Rattle.std.proofs.Common.{◌≡◌, length}
use Rattle.cabinet.specs.Cabinets.{Readable, source}
use Rattle.cabinet.proofs.Recordings.{read_so_far}
use Rattle.cabinet.proofs.cabinet.Cabinet.record_words.Given as goal

-- the words of a record of so many words as were read
abbrev pub invariant-loop-k : goal.invariant-loop-k
invariant-loop-k g l =
    (length l.words ≡ 8)
    × (g.M.Memory.lawful l.self.memory → Readable (source l.self.rules.now) (g.M.Memory.seen l.self.memory) → l.words ≡ read_so_far l.size l.k (g.M.Memory.seen l.self.memory).words)
