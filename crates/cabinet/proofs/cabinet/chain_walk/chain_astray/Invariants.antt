-- `chain_astray`: what its loop keeps.
use Rattle.std.proofs.Common.{◌≡◌, ◌+◌, ◌*◌, ◌-◌}
use Rattle.program.specs.Sound.{scope_of}
use Rattle.layout.specs.Chains.{astray, most_entries}
use Rattle.layout.specs.Places.{head_place, log_place}
use Rattle.cabinet.specs.Cabinets.{Readable, source}
use Rattle.cabinet.proofs.cabinet.chain_walk.chain_astray.Given as goal

-- the whole chain is astray if it is from the entry that is due on
abbrev pub invariant-loop-number : goal.invariant-loop-number
invariant-loop-number g l =
    g.M.Memory.lawful l.memory → Readable (source l.rules) (g.M.Memory.seen l.memory)
    → astray (most_entries l.layout.variables) (scope_of (source l.rules)) (g.M.Memory.seen l.memory).words (log_place l.layout.variables) head_place
    ≡ astray (l.number-end - l.number) (scope_of (source l.rules)) (g.M.Memory.seen l.memory).words (log_place l.layout.variables + 3 * l.number) l.before
