-- A cabinet as a value, and when it is lawful.
use Rattle.std.specs.Prelude.{◌≡◌, ℕ, ◌≤◌, true, length}
use Rattle.memory.specs.declared.interface.Memory.{Ghosts}
use Rattle.memory.specs.Value.{Value}
use Rattle.program.specs.Programs.{program_source}
use Rattle.program.specs.Sound.{Source}
use Rattle.rules.specs.declared.rules.Rules.{Rules}
use Rattle.layout.specs.Places.{least_length}
use Rattle.calls.specs.Calls.{Event, Took}
use Rattle.calls.specs.Lawful.{Lawful}
use Rattle.calls.specs.Stages.{Held}
use Rattle.cabinet.specs.declared.cabinet.Cabinet.{Cabinet}
use Rattle.cabinet.specs.States.{stage_of}

abbrev pub source : Rules → Source
source r = program_source r.program

-- a memory is lit, and long enough for the program
pub record Readable (p : Source) (v : Value) : Type 0 where
  pub lit : v.lit ≡ true
  pub long : least_length (length p.firsts) ≤ length v.words

module _ {M : Type 0} (memory : Ghosts M) where
  abbrev pub held : Cabinet M memory → Held
  held c = record { program = source c.rules.now; memory = memory.seen c.memory; stage = stage_of c.state; task = c.task }

  -- A lawful cabinet: its memory is lawful, and so is what it holds.
  pub record IsLawful (c : Cabinet M memory) : Type 0 where
    pub memory_lawful : memory.lawful c.memory
    pub lawful : Lawful (held c)

  -- A lawful cabinet takes the call with its answer, and is lawful then.
  abbrev pub Takes : Cabinet M memory → Event → Cabinet M memory → Type 0
  Takes c e c′ = IsLawful c → IsLawful c′ × Took (held c) e (held c′)

  -- the last scrap given to its memory is as it was
  abbrev pub KeepsScrap : Cabinet M memory → Cabinet M memory → Type 0
  KeepsScrap c c′ = (scrap : ℕ) → memory.given c.memory scrap → memory.given c′.memory scrap
