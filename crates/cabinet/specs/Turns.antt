-- What a step is to do, and what it comes to.
use Rattle.std.specs.Prelude.{◌≡◌, ℕ, ◌+◌, ◌<◌, true, Some, Ok, Err, Option, Result, length}
use Rattle.words.specs.Lists.{items}
use Rattle.memory.specs.declared.fault.Fault.{Fault}
use Rattle.memory.specs.declared.fault.Fault.TheVariants as fault
use Rattle.memory.specs.declared.interface.Memory.{Ghosts}
use Rattle.layout.specs.declared.store.Store.{Store}
use Rattle.calls.specs.declared.answer.Progress.{Progress}
use Rattle.calls.specs.declared.due.Due.{Due}
use Rattle.calls.specs.declared.refusal.Why.{Why}
use Rattle.calls.specs.Lawful.{MemoryFits, stage_fits}
use Rattle.calls.specs.Stages.{Held, Stage}
use Rattle.calls.specs.Steps as calls
use Rattle.calls.specs.Steps.{applying_turn, ends_commit, logging_turn, put, put_answer, running_turn, settles, stepped, turn}
use Rattle.program.specs.Sound.{Source}
use Rattle.cabinet.specs.declared.cabinet.Cabinet.{Cabinet}
use Rattle.cabinet.specs.declared.state.Log.{Log}
use Rattle.cabinet.specs.declared.state.State.{State}
use Rattle.cabinet.specs.declared.state.Turn.{Turn}
use Rattle.cabinet.specs.Cabinets.{IsLawful, Readable, held, source}
use Rattle.cabinet.specs.Running.{turn_of}
use Rattle.cabinet.specs.States.{stage_of}

-- What a step is to do by a state, or why there is none.
abbrev pub due_turn : Held → Result calls.Turn Why
due_turn h = elim h.stage [
  | Stage.Settled ↦ Err Why.Idle
  | Stage.Rest ↦ Err Why.Idle
  | Stage.Running a ↦ Ok (running_turn h.program a h.memory.words)
  | Stage.Logging es k ↦ Ok (logging_turn h.program es k)
  | Stage.Applying (Due.Entry e) ↦ Ok (applying_turn e h.memory.words)
  | Stage.Applying Due.Head ↦ Ok (turn (Some ends_commit) Stage.Settled)
  | Stage.Dark ↦ Err (Why.Memory fault.Dark)
]

-- the turn, as a value
abbrev pub IsTurn : Result calls.Turn Why → Result Turn Why → Type 0
IsTurn due (Ok t) = due ≡ Ok (turn_of t)
IsTurn due (Err why) = due ≡ Err why

-- the state behind a turn fits the program
abbrev pub FitsThen : {E : Type 0} → Source → Result Turn E → Type 0
FitsThen p (Ok t) = stage_fits p (stage_of t.then) ≡ true
FitsThen p (Err why) = Unit {0}

-- the next word of the log is due, or its head
abbrev pub Logs : Source → Log → Turn → Type 0
Logs p l t = (turn_of t ≡ logging_turn p (items l.entries) l.stored) × (stage_fits p (stage_of (State.Logging l)) ≡ true → stage_fits p (stage_of t.then) ≡ true)

module _ {M : Type 0} (memory : Ghosts M) where
  -- a store is made or cut; with none, nothing is
  abbrev pub Puts : M → Option Store → Result (Unit {0}) Fault → M → Type 0
  Puts m store r m′ = memory.lawful m → memory.lawful m′ × (r ≡ put_answer (memory.seen m) store) × (memory.seen m′ ≡ put (memory.seen m) store)

  -- what an entry at e, inside the memory, calls for
  abbrev pub AppliesEntry : Cabinet M memory → ℕ → Result Turn Fault → Type 0
  AppliesEntry c e r = memory.lawful c.memory → (memory.seen c.memory).lit ≡ true → e + 2 < length (memory.seen c.memory).words → (t : Turn) × (r ≡ Ok t) × (turn_of t ≡ applying_turn e (memory.seen c.memory).words)

  -- an entry is due
  abbrev pub Applies : Cabinet M memory → ℕ → Result Turn Fault → Type 0
  Applies c e r =
      memory.lawful c.memory → Readable (source c.rules.now) (memory.seen c.memory) → MemoryFits (source c.rules.now) (memory.seen c.memory) (Stage.Applying (Due.Entry e))
      → (t : Turn) × (r ≡ Ok t) × (turn_of t ≡ applying_turn e (memory.seen c.memory).words)

  -- what is due
  abbrev pub Turns : Cabinet M memory → Result Turn Why → Type 0
  Turns c r = IsLawful memory c → IsTurn (due_turn (held memory c)) r

  -- a commit is over
  abbrev pub Settles : Cabinet M memory → Result Progress Why → Cabinet M memory → Type 0
  Settles c r c′ =
      memory.lawful c.memory → Readable (source c.rules.now) (memory.seen c.memory)
      → memory.lawful c′.memory × (r ≡ (settles (held memory c) (memory.seen c.memory)).answer) × (held memory c′ ≡ (settles (held memory c) (memory.seen c.memory)).left)

  -- a step, but for what its refusal adds
  abbrev pub Advances : Cabinet M memory → Result Progress Why → Cabinet M memory → Type 0
  Advances c r c′ = IsLawful memory c → memory.lawful c′.memory × (r ≡ (stepped (held memory c)).answer) × (held memory c′ ≡ (stepped (held memory c)).left)

  -- a step of a lawful cabinet, but for what its refusal adds
  abbrev pub GoesOn : Cabinet M memory → Result Progress Why → Cabinet M memory → Type 0
  GoesOn c r c′ = IsLawful memory c → IsLawful memory c′ × (r ≡ (stepped (held memory c)).answer) × (held memory c′ ≡ (stepped (held memory c)).left)
