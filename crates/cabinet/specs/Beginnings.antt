-- What a begin comes to.
use Rattle.std.specs.Prelude.{◌≡◌, ℕ, ◌<◌, true, cond, not, ◌==◌, List, length, IfOk, Ok, Err, Result}
use Rattle.memory.specs.declared.fault.Fault.TheVariants as fault
use Rattle.memory.specs.declared.interface.Memory.{Ghosts}
use Rattle.program.specs.declared.statement.Index.{Index}
use Rattle.program.specs.declared.statement.Next.{Next}
use Rattle.plain.specs.Plain.{last_number}
use Rattle.calls.specs.declared.refusal.Why.{Why}
use Rattle.calls.specs.Lawful.{attempt_fits}
use Rattle.calls.specs.Running.{started}
use Rattle.calls.specs.Calls.{begun}
use Rattle.calls.specs.Stages as value
use Rattle.calls.specs.Stages.{Stage}
use Rattle.calls.specs.Steps.{Comes, answered}
use Rattle.calls.specs.Words.{next_in, number_in}
use Rattle.cabinet.specs.declared.cabinet.Cabinet.{Cabinet}
use Rattle.cabinet.specs.declared.state.Attempt.{Attempt}
use Rattle.cabinet.specs.declared.state.State.{State}
use Rattle.cabinet.specs.Cabinets.{IsLawful, Readable, held, source}
use Rattle.cabinet.specs.States.{attempt_of}

-- the task that comes next
abbrev pub next_task : Next → Result (Index 16) Why
next_task (Next.Task t) = Ok t
next_task Next.Stopped = Err Why.Stopped

-- The task that a begin takes in a state. What is `unfoldable` here would have its tests searched wherever it stands.
unfoldable pub task_to_begin : Stage → Next → Result (Index 16) Why
task_to_begin Stage.Settled next = next_task next
task_to_begin Stage.Rest next = next_task next
task_to_begin (Stage.Running a) next = Err Why.Busy
task_to_begin (Stage.Logging es k) next = Err Why.Busy
task_to_begin (Stage.Applying due) next = Err Why.Busy
task_to_begin Stage.Dark next = Err (Why.Memory fault.Dark)

-- the eight words of the row, where its host has taken the record of visit `number` and another visit may follow
unfoldable pub admitted : ℕ → ℕ → List ℕ → Result (List ℕ) Why
admitted number taken row = cond (not (taken == number)) (Err Why.NotTaken) (cond (not (length row == 8)) (Err Why.RowLength) (cond (number == last_number) (Err Why.LastNumber) (Ok row)))

-- with the attempt as a value
abbrev pub told : Result Attempt Why → Result value.Attempt Why
told (Ok a) = Ok (attempt_of a)
told (Err why) = Err why

module _ {M : Type 0} (memory : Ghosts M) where
  -- the task that a begin takes in this cabinet
  unfoldable pub begins_with : Cabinet M memory → Result (Index 16) Why
  begins_with c = task_to_begin (held memory c).stage (next_in (memory.seen c.memory).words)

  -- whatever was read, the program has the task
  abbrev pub Known : Cabinet M memory → Result (Index 16) Why → Type 0
  Known c r = IfOk r (λ t. t.number < length (source c.rules.now).tasks)

  -- where it can be read, it is the next task
  abbrev pub NextTask : Cabinet M memory → Result (Index 16) Why → Type 0
  NextTask c r = IsLawful memory c → Readable (source c.rules.now) (memory.seen c.memory) → r ≡ next_task (next_in (memory.seen c.memory).words)

  -- a begin takes the task, and the memory can be read; or it takes none
  abbrev pub BeginsWith : Cabinet M memory → Result (Index 16) Why → Type 0
  BeginsWith c (Ok t) = IsLawful memory c → Readable (source c.rules.now) (memory.seen c.memory) × (begins_with c ≡ Ok t)
  BeginsWith c (Err why) = IsLawful memory c → begins_with c ≡ Err why

  -- the host's arguments are admitted, or refused
  abbrev pub Admits : Cabinet M memory → ℕ → List ℕ → Result (List ℕ) Why → Type 0
  Admits c taken row r = memory.lawful c.memory → Readable (source c.rules.now) (memory.seen c.memory) → r ≡ admitted (number_in (memory.seen c.memory).words) taken row

  -- whatever was read, the attempt fits the program
  abbrev pub AttemptFits : Cabinet M memory → Result Attempt Why → Type 0
  AttemptFits c r = IfOk r (λ a. attempt_fits (source c.rules.now) (attempt_of a) ≡ true)

  -- the attempt of a begin
  unfoldable pub attempted : Cabinet M memory → ℕ → List ℕ → Result value.Attempt Why
  attempted c taken row =
      elim (begins_with c) [
        | Ok t ↦ elim (admitted (number_in (memory.seen c.memory).words) taken row) [
          | Ok words ↦ Ok (started (source c.rules.now) t.number words (memory.seen c.memory).words)
          | Err why ↦ Err why
        ]
        | Err why ↦ Err why
      ]

  -- it is this attempt, or there is none
  abbrev pub Attempts : Cabinet M memory → ℕ → List ℕ → Result Attempt Why → Type 0
  Attempts c taken row r = IsLawful memory c → told r ≡ attempted c taken row

  -- c′ is c with the attempt, of the task last read
  pub record Enters (c : Cabinet M memory) (a : Attempt) (c′ : Cabinet M memory) : Type 0 where
    pub rules : c′.rules ≡ c.rules
    pub same : c′.memory ≡ c.memory
    pub state : c′.state ≡ State.Running a
    pub task : c′.task ≡ Next.Task a.task

  -- A lawful cabinet begins, or tells why not.
  unfoldable pub Begins : Cabinet M memory → ℕ → List ℕ → Result (Unit {0}) Why → Cabinet M memory → Type 0
  Begins c taken row r c′ = IsLawful memory c → IsLawful memory c′ × Comes (held memory c) (begun (held memory c) taken row) (answered (held memory c) r) (held memory c′)
