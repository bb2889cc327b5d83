-- `Cabinet::copies`: what its loop keeps.
use Rattle.cabinet.specs.Cabinets.{source}
use Rattle.cabinet.proofs.Starting.{Copied}
use Rattle.cabinet.proofs.cabinet.Cabinet.copies.Given as goal

-- the copies of the variables so far have been read
abbrev pub invariant-loop-number : goal.invariant-loop-number
invariant-loop-number g l = Copied (source l.self.rules.now) (g.M.Memory.seen l.self.memory) (g.M.Memory.lawful l.self.memory) l.logged l.number l.copies
