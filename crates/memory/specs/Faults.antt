-- Each refusal's number and what it carries, and a fault told one layer up.
use Rattle.std.specs.Prelude.{ℕ, ◌+◌, min, Some, None, Option}
use Rattle.memory.specs.declared.fault.Cut.{Cut}
use Rattle.memory.specs.declared.fault.Fault.{Fault}
use Rattle.memory.specs.declared.fault.Fault.TheVariants as fault
use Rattle.memory.specs.declared.fault.Unmade.{Unmade}
use Rattle.memory.specs.declared.fault.Unmade.TheVariants as unmade

-- A refusal as it is told: only a cut carries more than its number.
pub record Told : Type 0 where
  pub number : ℕ
  pub carried : Option Cut

-- refused at read, write and relight
abbrev pub told : Fault → Told
told fault.Dark = record { number = 3; carried = None }
told fault.Outside = record { number = 4; carried = None }
told (fault.Cut c) = record { number = 5; carried = Some c }

-- refused at making, where nothing more is carried
abbrev pub unmade_number : Unmade → ℕ
unmade_number unmade.Size = 1
unmade_number unmade.Dear = 2
unmade_number unmade.Dark = 3
unmade_number unmade.Unequal = 6

-- one layer more above the lowest memory; the limits of a memory keep the count below 255
abbrev pub raise : Fault → Fault
raise fault.Dark = fault.Dark
raise fault.Outside = fault.Outside
raise (fault.Cut c) = fault.Cut (record { place = c.place; layers = min (c.layers + 1) 255 })
