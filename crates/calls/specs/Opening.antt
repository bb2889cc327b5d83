-- Lay and open: a memory is made ready for a program, and becomes a cabinet.
use Rattle.std.specs.Prelude.{◌≡◌, ℕ, not, cond, List, [], ◌∷◌, ◌++◌, length, replicate, None, Some, Ok, Err, Option, Result, ◌==◌, nat_lt, nat_le, slice_index}
use Rattle.memory.specs.declared.fault.Fault.{Fault}
use Rattle.memory.specs.declared.fault.Fault.TheVariants as fault
use Rattle.memory.specs.Value.{Value, write_answer, written}
use Rattle.program.specs.Sound.{Source, scope_of}
use Rattle.layout.specs.declared.store.Store.{Store}
use Rattle.layout.specs.Chains.{log_astray, next_known}
use Rattle.layout.specs.Places.{head_place, least_length, length_place, next_place, variable_place}
use Rattle.calls.specs.declared.due.Due.{Due}
use Rattle.calls.specs.declared.unready.Unready.{Unready}
use Rattle.calls.specs.Running.{stores_from}
use Rattle.calls.specs.Stages.{Held, Stage}
use Rattle.calls.specs.Steps.{log_of}
use Rattle.calls.specs.Words.{next_in}

-- what a memory must be for a program before it is looked into
abbrev pub unfit : Source → Value → Option Unready
unfit p v =
    cond (not v.kind.whole) (Some Unready.Torn)
    (cond (nat_lt (length v.words) (least_length (length p.firsts))) (Some Unready.Short)
    (cond (not v.lit) (Some (Unready.Memory fault.Dark)) None))

-- the word that stands for the next task while laying is unfinished: no task, and no stop
abbrev pub unlaid_word : ℕ
unlaid_word = 65535

abbrev pub next_becomes : ℕ → Store
next_becomes word = record { place = next_place; word = word }

-- the stores of lay, in their order
abbrev pub lay_stores : Source → List Store
lay_stores p = next_becomes unlaid_word ∷ stores_from head_place (replicate 3 0) ++ stores_from length_place (replicate 9 0) ++ stores_from (variable_place 0) p.firsts ++ next_becomes 0 ∷ []

-- stores one after the other, as far as they are made
unfoldable pub stores_answer : Value → List Store → Result (Unit {0}) Fault
stores_answer v [] = Ok tt
stores_answer v (s ∷ more) = elim (write_answer v s.place) [ Ok _ ↦ stores_answer (written v s.place s.word) more | Err e ↦ Err e ]

unfoldable pub stored_all : Value → List Store → Value
stored_all v [] = v
stored_all v (s ∷ more) = elim (write_answer v s.place) [ Ok _ ↦ stored_all (written v s.place s.word) more | Err e ↦ written v s.place s.word ]

abbrev pub as_unready : Result (Unit {0}) Fault → Result (Unit {0}) Unready
as_unready (Ok _) = Ok tt
as_unready (Err e) = Err (Unready.Memory e)

-- LAY: what it answers, and the memory that it leaves.
abbrev pub Laid : Source → Value → Result (Unit {0}) Unready → Value → Type 0
Laid p v r v′ = elim (unfit p v) [
  | Some why ↦ (r ≡ Err why) × (v′ ≡ v)
  | None ↦ (r ≡ as_unready (stores_answer v (lay_stores p))) × (v′ ≡ stored_all v (lay_stores p))
]

-- why a memory is not opened
abbrev pub unopened : Source → Value → Option Unready
unopened p v = elim (unfit p v) [
  | Some why ↦ Some why
  | None ↦
      cond (not (next_known (length p.tasks) (slice_index v.words next_place))) (Some Unready.NextTask)
      (cond (not (nat_le (slice_index v.words length_place) 8)) (Some Unready.RecordLength)
      (cond (log_astray (scope_of p) v.words) (Some Unready.Astray) None))
]

-- OPEN: the cabinet over a memory, at rest or with a commit under way.
abbrev pub opened : Source → Value → Held
opened p v = record {
  program = p;
  memory = v;
  stage = cond (slice_index v.words head_place == 0) Stage.Rest (Stage.Applying (Due.Entry (log_of p)));
  task = next_in v.words;
}
