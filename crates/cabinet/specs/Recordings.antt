-- The record as a cabinet shows it.
use Rattle.std.specs.Prelude.{◌≡◌, ℕ, ◌+◌, slice_index, slice_set, Ok, List, Result, take, drop}
use Rattle.memory.specs.declared.fault.Fault.{Fault}
use Rattle.memory.specs.declared.interface.Memory.{Ghosts}
use Rattle.plain.specs.Plain.{eight}
use Rattle.layout.specs.Places.{record_place}
use Rattle.calls.specs.declared.refusal.Refusal.{Refusal}
use Rattle.calls.specs.declared.refusal.Why.{Why}
use Rattle.calls.specs.Calls.{Event, Took, filled, recorded, shown}
use Rattle.cabinet.specs.declared.cabinet.Cabinet.{Cabinet}
use Rattle.cabinet.specs.Cabinets.{IsLawful, Readable, held, source}
use Rattle.cabinet.specs.Reads.{Reads}

-- the eight words of a record of this size in memory
unfoldable pub record_of : ℕ → List ℕ → List ℕ
record_of size ws = eight (take size (drop record_place ws))

module _ {M : Type 0} (memory : Ghosts M) where
  -- Where there is a record to be read, its length is told.
  abbrev pub Shows : Cabinet M memory → Result ℕ Why → Type 0
  Shows c r = IsLawful memory c → r ≡ shown (held memory c)

  abbrev pub ReadsRecordWord : Cabinet M memory → ℕ → List ℕ → Result (Unit {0}) Fault → List ℕ → Type 0
  ReadsRecordWord c at old r new =
      memory.lawful c.memory → Readable (source c.rules.now) (memory.seen c.memory) → (r ≡ Ok tt) × (new ≡ slice_set old at (slice_index (memory.seen c.memory).words (record_place + at)))

  abbrev pub ReadsRecord : Cabinet M memory → ℕ → Result (List ℕ) Fault → Type 0
  ReadsRecord c size r = Reads memory c (record_of size (memory.seen c.memory).words) r

  -- the buffer is filled, or why not is told
  abbrev pub Fills : Cabinet M memory → List ℕ → Result ℕ Why → List ℕ → Type 0
  Fills c buffer r holds = IsLawful memory c → (r ≡ (recorded (held memory c) buffer).answer) × (holds ≡ filled (held memory c) buffer)

  -- A lawful cabinet fills the buffer with the record, or leaves it, and is as before.
  abbrev pub Records : Cabinet M memory → List ℕ → Result ℕ Refusal → List ℕ → Type 0
  Records c buffer r holds = IsLawful memory c → Took (held memory c) (Event.Record buffer r holds) (held memory c)
