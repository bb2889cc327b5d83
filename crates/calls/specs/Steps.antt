-- A step: the store that the state calls for, and the cabinet after it.
use Rattle.std.specs.Prelude.{◌≡◌, ℕ, ◌+◌, cond, List, length, None, Some, Ok, Err, Option, Result, ◌==◌, nat_lt, slice_index}
use Rattle.memory.specs.declared.fault.Fault.{Fault}
use Rattle.memory.specs.declared.fault.Fault.TheVariants as fault
use Rattle.memory.specs.Value.{Value, write_answer, written}
use Rattle.program.specs.Runs.{after}
use Rattle.program.specs.Shapes.{ending, targets}
use Rattle.program.specs.Sound.{Source}
use Rattle.layout.specs.declared.store.Store.{Store}
use Rattle.layout.specs.Chains.{chain_words, entry_at}
use Rattle.layout.specs.Places.{head_place, log_place}
use Rattle.calls.specs.declared.answer.Progress.{Progress}
use Rattle.calls.specs.declared.due.Due.{Due}
use Rattle.calls.specs.declared.refusal.Refusal.{Refusal}
use Rattle.calls.specs.declared.refusal.Why.{Why}
use Rattle.calls.specs.Running.{coming, direct, entries, logs, view, went_on}
use Rattle.calls.specs.Stages.{Attempt, Held, Stage, phase}
use Rattle.calls.specs.Words.{next_in, number_in}

-- What a call answers, and the cabinet that it leaves.
pub record Outcome (A : Type 0) : Type 0 where
  pub answer : Result A Why
  pub left : Held

-- refused, with nothing altered
abbrev pub refused : {A : Type 0} → Held → Why → Outcome A
refused h why = record { answer = Err why; left = h }

-- A refusal tells the state before the call, and the task last read.
abbrev pub refusal : Held → Why → Refusal
refusal h why = record { why = why; before = phase h.stage; task = h.task }

abbrev pub answered : {A : Type 0} → Held → Result A Why → Result A Refusal
answered h (Ok a) = Ok a
answered h (Err why) = Err (refusal h why)

-- the call on h answers r and leaves h′, as in the outcome
abbrev pub Comes : {A : Type 0} → Held → Outcome A → Result A Refusal → Held → Type 0
Comes h o r h′ = (r ≡ answered h o.answer) × (h′ ≡ o.left)

-- h in another state, with another memory
abbrev pub moved : Held → Value → Stage → Held
moved h memory stage = record { program = h.program; memory = memory; stage = stage; task = h.task }

-- at rest or settled, where the task is read anew
abbrev pub come_to : Held → Value → Stage → Held
come_to h memory stage = record { program = h.program; memory = memory; stage = stage; task = next_in memory.words }

-- a store is made, or cut; with none, nothing is
abbrev pub put_answer : Value → Option Store → Result (Unit {0}) Fault
put_answer v None = Ok tt
put_answer v (Some s) = write_answer v s.place

abbrev pub put : Value → Option Store → Value
put v None = v
put v (Some s) = written v s.place s.word

-- where the program's log lies
abbrev pub log_of : Source → ℕ
log_of p = log_place (length p.firsts)

-- the head says that a commit is under way, or that none is
abbrev pub begins_commit : Source → Store
begins_commit p = record { place = head_place; word = log_of p }

abbrev pub ends_commit : Store
ends_commit = record { place = head_place; word = 0 }

-- A step by a state: the store, if one is due, and the state behind it.
pub record Turn : Type 0 where
  pub store : Option Store
  pub then : Stage

abbrev pub turn : Option Store → Stage → Turn
turn store then = record { store = store; then = then }

-- Running: the statement that comes is a plain step on the view. The ending chooses what comes next.
abbrev pub running_turn : Source → Attempt → List ℕ → Turn
running_turn p a ws =
    let s = coming p a in
    let logged = logs p a.task in
    let τ = after s (view p a ws) in
    cond (ending s) (turn None (Stage.Logging (entries (number_in ws) τ.chosen a) 0)) (turn (direct logged (targets s) τ) (Stage.Running (went_on logged s (view p a ws) τ a)))

-- Logging: the entries' words one after the other, and then the head.
abbrev pub logging_turn : Source → List Store → ℕ → Turn
logging_turn p es k =
    let words = chain_words (log_of p) es in
    cond (nat_lt k (length words))
    (turn (Some (record { place = log_of p + k; word = slice_index words k })) (Stage.Logging es (k + 1)))
    (turn (Some (begins_commit p)) (Stage.Applying (Due.Entry (log_of p))))

-- Applying: the word of the entry that is due, at its place. Behind the last entry the head is due.
abbrev pub applying_turn : ℕ → List ℕ → Turn
applying_turn e ws = turn (Some (entry_at ws e)) (Stage.Applying (cond (slice_index ws e == 0) Due.Head (Due.Entry (slice_index ws e))))

-- goes on in a state
abbrev pub goes_on : Held → Stage → Value → Outcome Progress
goes_on h stage memory = record { answer = Ok Progress.Going; left = moved h memory stage }

-- settles the visit that its memory tells
abbrev pub settles : Held → Value → Outcome Progress
settles h memory = record { answer = Ok (Progress.Settled (number_in memory.words)); left = come_to h memory Stage.Settled }

-- A store is made, and then what is done with the memory that it leaves; or it is cut, and the cabinet is dark.
abbrev pub through : Held → Option Store → (Value → Outcome Progress) → Outcome Progress
through h store done = elim (put_answer h.memory store) [
  | Ok _ ↦ done (put h.memory store)
  | Err (fault.Cut c) ↦ record { answer = Err (Why.Memory (fault.Cut c)); left = moved h (put h.memory store) Stage.Dark }
  | Err fault.Dark ↦ refused h (Why.Memory fault.Dark)
  | Err fault.Outside ↦ refused h (Why.Memory fault.Outside)
]

abbrev pub turned : Held → Turn → Outcome Progress
turned h t = through h t.store (goes_on h t.then)

-- STEP
abbrev pub stepped : Held → Outcome Progress
stepped h = elim h.stage [
  | Stage.Settled ↦ refused h Why.Idle
  | Stage.Rest ↦ refused h Why.Idle
  | Stage.Running a ↦ turned h (running_turn h.program a h.memory.words)
  | Stage.Logging es k ↦ turned h (logging_turn h.program es k)
  | Stage.Applying (Due.Entry e) ↦ turned h (applying_turn e h.memory.words)
  | Stage.Applying Due.Head ↦ through h (Some ends_commit) (settles h)
  | Stage.Dark ↦ refused h (Why.Memory fault.Dark)
]
