-- `Machine::page`: what its loop keeps.
use Rattle.std.proofs.Common.{◌≡◌, ℕ, ◌<◌, get_or}
use Rattle.plain.specs.Plain.{page}
use Rattle.plain.specs.Machines.{plain_of}
use Rattle.plain.proofs.machine.Machine.page.Given as goal

-- the words so far are the page's
abbrev pub invariant-loop-place : goal.invariant-loop-place
invariant-loop-place l = (k : ℕ) → k < l.place → get_or l.buffer k 0 ≡ get_or (page (plain_of l.self)) k 0
