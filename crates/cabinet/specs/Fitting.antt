-- What a memory must be for a program before it is looked into.
use Rattle.std.specs.Prelude.{◌≡◌, Result}
use Rattle.std.specs.Result.{result_err}
use Rattle.memory.specs.declared.interface.Memory.{Ghosts}
use Rattle.program.specs.Sound.{Source}
use Rattle.calls.specs.declared.unready.Unready.{Unready}
use Rattle.calls.specs.Opening.{unfit}

module _ {M : Type 0} (memory : Ghosts M) where
  -- A lawful memory is refused exactly when it is unfit for the program, and for that reason.
  abbrev pub Fits : Source → M → Result (Unit {0}) Unready → Type 0
  Fits p m r = memory.lawful m → result_err r ≡ unfit p (memory.seen m)
