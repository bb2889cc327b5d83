-- Begin, relight and record, and the one relation of all calls.
use Rattle.std.specs.Prelude.{◌≡◌, ℕ, not, cond, List, length, Ok, Err, Result, ◌==◌, slice_index}
use Rattle.memory.specs.declared.fault.Cut.{Cut}
use Rattle.memory.specs.declared.fault.Fault.TheVariants as fault
use Rattle.memory.specs.Value.{CutAgain, Relit, Value}
use Rattle.program.specs.declared.statement.Next.{Next}
use Rattle.plain.specs.Plain.{eight, last_number}
use Rattle.layout.specs.Places.{head_place, length_place}
use Rattle.calls.specs.declared.answer.Progress.{Progress}
use Rattle.calls.specs.declared.answer.Woken.{Woken}
use Rattle.calls.specs.declared.due.Due.{Due}
use Rattle.calls.specs.declared.refusal.Refusal.{Refusal}
use Rattle.calls.specs.declared.refusal.Why.{Why}
use Rattle.calls.specs.Running.{started}
use Rattle.calls.specs.Stages.{Held, Stage}
use Rattle.calls.specs.Steps.{Comes, Outcome, come_to, log_of, moved, refusal, refused, stepped}
use Rattle.calls.specs.Words.{next_in, number_in, record_in}

-- Begin in a state where no visit is under way.
abbrev pub begun_still : Held → ℕ → List ℕ → Outcome (Unit {0})
begun_still h taken row = elim (next_in h.memory.words) [
  | Next.Stopped ↦ refused h Why.Stopped
  | Next.Task t ↦
      cond (not (taken == number_in h.memory.words)) (refused h Why.NotTaken)
      (cond (not (length row == 8)) (refused h Why.RowLength)
      (cond (number_in h.memory.words == last_number) (refused h Why.LastNumber)
      (record { answer = Ok tt; left = come_to h h.memory (Stage.Running (started h.program t.number row h.memory.words)) })))
]

-- BEGIN
abbrev pub begun : Held → ℕ → List ℕ → Outcome (Unit {0})
begun h taken row = elim h.stage [
  | Stage.Settled ↦ begun_still h taken row
  | Stage.Rest ↦ begun_still h taken row
  | Stage.Running a ↦ refused h Why.Busy
  | Stage.Logging es k ↦ refused h Why.Busy
  | Stage.Applying due ↦ refused h Why.Busy
  | Stage.Dark ↦ refused h (Why.Memory fault.Dark)
]

-- where a cabinet is, over a lit memory: at rest, or applying from the first entry on
abbrev pub woken : Held → Value → Outcome Woken
woken h memory =
    cond (slice_index memory.words head_place == 0)
    (record { answer = Ok (Woken.Rest (number_in memory.words)); left = come_to h memory Stage.Rest })
    (record { answer = Ok Woken.UnderWay; left = moved h memory (Stage.Applying (Due.Entry (log_of h.program))) })

-- RELIGHT: any attempt is gone. Free is what the memory does, and that within its limits.
abbrev pub Relights : Held → ℕ → Result Woken Refusal → Held → Type 0
Relights h charge (Ok w) h′ = Relit h.memory charge h′.memory × Comes h (woken h h′.memory) (Ok w) h′
Relights h charge (Err e) h′ = (cut : Cut) × CutAgain h.memory charge cut h′.memory × (e ≡ refusal h (Why.Memory (fault.Cut cut))) × (h′ ≡ moved h h′.memory Stage.Dark)

-- Record where there is one to be read.
abbrev pub shown : Held → Result ℕ Why
shown h = elim h.stage [
  | Stage.Settled ↦ Ok (slice_index h.memory.words length_place)
  | Stage.Rest ↦ Ok (slice_index h.memory.words length_place)
  | Stage.Running a ↦ Ok (slice_index h.memory.words length_place)
  | Stage.Logging es k ↦ Ok (slice_index h.memory.words length_place)
  | Stage.Applying due ↦ Err Why.UnderWay
  | Stage.Dark ↦ Err (Why.Memory fault.Dark)
]

-- RECORD, into a buffer: nothing alters but the buffer.
abbrev pub recorded : Held → List ℕ → Outcome ℕ
recorded h buffer = record { answer = cond (length buffer == 8) (shown h) (Err Why.BufferLength); left = h }

-- what the buffer then holds
abbrev pub filled : Held → List ℕ → List ℕ
filled h buffer = elim (recorded h buffer).answer [ Ok _ ↦ eight (record_in h.memory.words) | Err _ ↦ buffer ]

-- A call, with its arguments, its answer, and what a buffer holds then.
pub data Event : Type 0 where
  Begin : (taken : ℕ) → (row : List ℕ) → Result (Unit {0}) Refusal → Event
  Step : Result Progress Refusal → Event
  Relight : (charge : ℕ) → (scrap : ℕ) → Result Woken Refusal → Event
  Record : (buffer : List ℕ) → Result ℕ Refusal → (holds : List ℕ) → Event

-- THE CALLS: a cabinet h takes a call with its answer, and is h′ then.
abbrev pub Took : Held → Event → Held → Type 0
Took h (Event.Begin taken row r) h′ = Comes h (begun h taken row) r h′
Took h (Event.Step r) h′ = Comes h (stepped h) r h′
Took h (Event.Relight charge scrap r) h′ = Relights h charge r h′
Took h (Event.Record buffer r holds) h′ = Comes h (recorded h buffer) r h′ × (holds ≡ filled h buffer)
