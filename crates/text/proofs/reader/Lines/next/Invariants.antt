-- `Lines::next`: what its loop keeps, and why it ends.
use Rattle.std.proofs.Common.{◌≡◌, length}
use Rattle.text.specs.Reading.{lines_left}
use Rattle.text.proofs.reader.Lines.next.Given as goal

-- only lines that are skipped are taken off
abbrev pub invariant-loop-self : goal.invariant-loop-self
invariant-loop-self l = lines_left l.initial.self ≡ lines_left l.self

abbrev pub decreases-loop-self : goal.decreases-loop-self
decreases-loop-self l = length l.self.rest.now
