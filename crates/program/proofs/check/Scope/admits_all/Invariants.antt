-- `Scope::admits_all`: what its loop keeps.
use Rattle.std.proofs.Common.{◌≡◌, drop}
use Rattle.program.specs.Sound.{all_placed}
use Rattle.program.proofs.check.Scope.admits_all.Given as goal

-- what is left decides
abbrev pub invariant-loop-i : goal.invariant-loop-i
invariant-loop-i l = all_placed l.self l.task ≡ all_placed l.self (drop l.i l.task)
