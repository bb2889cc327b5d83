-- What is read in a memory that is lit and long enough for the program.
use Rattle.std.specs.Prelude.{◌≡◌, ℕ, List, Ok, Result}
use Rattle.memory.specs.declared.fault.Fault.{Fault}
use Rattle.memory.specs.declared.interface.Memory.{Ghosts}
use Rattle.program.specs.declared.statement.Next.{Next}
use Rattle.calls.specs.Words.{next_in, number_in}
use Rattle.cabinet.specs.declared.cabinet.Cabinet.{Cabinet}
use Rattle.cabinet.specs.Cabinets.{Readable, source}

module _ {M : Type 0} (memory : Ghosts M) where
  abbrev words : Cabinet M memory → List ℕ
  words c = (memory.seen c.memory).words

  -- Of a lawful memory that can be read, this is what is read.
  abbrev pub Reads : {A : Type 0} → Cabinet M memory → A → Result A Fault → Type 0
  Reads c a r = memory.lawful c.memory → Readable (source c.rules.now) (memory.seen c.memory) → r ≡ Ok a

  abbrev pub ReadsNumber : Cabinet M memory → Result ℕ Fault → Type 0
  ReadsNumber c r = Reads c (number_in (words c)) r

  abbrev pub ReadsNext : Cabinet M memory → Result Next Fault → Type 0
  ReadsNext c r = Reads c (next_in (words c)) r
