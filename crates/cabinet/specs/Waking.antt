-- A cabinet over a memory that was relit.
use Rattle.std.specs.Prelude.{◌≡◌, ℕ, Ok, Err, Result}
use Rattle.memory.specs.declared.fault.Fault.{Fault}
use Rattle.memory.specs.declared.interface.Memory.{Ghosts}
use Rattle.memory.specs.Value
use Rattle.calls.specs.declared.answer.Woken.{Woken}
use Rattle.calls.specs.Calls.{Relights, woken}
use Rattle.calls.specs.Stages.{Held}
use Rattle.calls.specs.Steps.{Comes}
use Rattle.cabinet.specs.declared.cabinet.Cabinet.{Cabinet}
use Rattle.cabinet.specs.Cabinets.{IsLawful, Readable, held, source}

-- A relight that was done, and left h′ at rest or applying. It does not unfold by itself: its tests would be searched wherever it stands.
unfoldable pub WakesTo : Held → ℕ → Woken → Held → Type 0
WakesTo h charge w h′ = Relights h charge (Ok w) h′

module _ {M : Type 0} (memory : Ghosts M) where
  -- at rest, or applying from the first entry on
  abbrev pub WakesIf : Cabinet M memory → Result Woken Fault → Cabinet M memory → Type 0
  WakesIf c (Ok w) c′ = Comes (held memory c) (woken (held memory c) (memory.seen c′.memory)) (Ok w) (held memory c′)
  WakesIf c (Err e) c′ = ⊥

  -- A memory that can be read says how the cabinet wakes.
  abbrev pub Wakes : Cabinet M memory → Result Woken Fault → Cabinet M memory → Type 0
  Wakes c r c′ = memory.lawful c.memory → Readable (source c.rules.now) (memory.seen c.memory) → WakesIf c r c′

  -- The memory is relit, and the cabinet wakes; or the relight is cut.
  abbrev pub BringsBack : Cabinet M memory → ℕ → Result Woken Fault → Cabinet M memory → Type 0
  BringsBack c charge (Ok w) c′ = IsLawful memory c → memory.lawful c′.memory × WakesTo (held memory c) charge w (held memory c′)
  BringsBack c charge (Err e) c′ = IsLawful memory c → memory.lawful c′.memory × (c′.task ≡ c.task) × Value.Relights (memory.seen c.memory) charge (Err e) (memory.seen c′.memory)
