-- Three stores below, by what they come to above.
use Rattle.std.proofs.Common.{ℕ, Result}
use Rattle.memory.specs.declared.fault.Raised.{Raised}
use Rattle.memory.specs.declared.interface.Memory.{Ghosts}
use Rattle.cells.specs.Triple.{to_all}
use Rattle.cells.proofs.Writing.{stored_above}
use Rattle.three_cell.specs.Below.{Stores, StoresWord}

pub stored_word : {M : Type 0} (memory : Ghosts M) (m : M) (p w : ℕ) (r : Result (Unit {0}) Raised) (after : M) → Stores memory m p (to_all w) r after → StoresWord memory m p w r after
stored_word memory m p w r after stores = λ l t h. stored_above _ (memory.limits m l) t p w h r _ (stores l).1
