-- A machine as a value, and what its calls answer.
use Rattle.std.specs.Prelude.{◌≡◌, ℕ, ◌+◌, ◌<◌, cond, List, [], length, Some, None, Ok, Err, Option, Result, ◌==◌, ◌≢◌}
use Rattle.words.specs.Lists.{items}
use Rattle.program.specs.declared.statement.Next.{Next}
use Rattle.program.specs.Sound.{Source, task_of}
use Rattle.program.specs.declared.program.Program.{Program}
use Rattle.program.specs.Programs.{program_source}
use Rattle.plain.specs.declared.machine.Machine.{Machine}
use Rattle.plain.specs.declared.machine.visits.Refusal.{Refusal}
use Rattle.plain.specs.declared.machine.pages.WrongLength.{WrongLength}
use Rattle.plain.specs.declared.visit.Visit.{Visit}
use Rattle.plain.specs.Plain.{Plain, last_number, at_first, left_by, after_visit, page}
use Rattle.plain.specs.Series.{after_rows, row_at}
use Rattle.plain.specs.Steps.{Standing, standing, starting, ends}

abbrev pub plain_of : Machine → Plain
plain_of m = record { number = m.number; next = m.next; emitted = items m.emitted; variables = items m.variables }

-- the program that it runs, and where it stands
pub record Running : Type 0 where
  pub program : Program
  pub state : Plain

abbrev pub running : Machine → Running
running m = record { program = m.program.now; state = plain_of m }

-- the same program, standing elsewhere
abbrev pub moved_to : Running → Plain → Running
moved_to m state = record { program = m.program; state = state }

-- before the first visit
abbrev pub at_start : Program → Running
at_start p = record { program = p; state = at_first (program_source p) }

-- after a visit for each of these rows
abbrev pub replayed : Program → List (List ℕ) → Running
replayed p rows = record { program = p; state = after_rows (program_source p) (row_at rows) (length rows) }

-- Why there is no visit: after a stop, or at the last visit number that there is.
abbrev pub visit_refusal : Plain → Option Refusal
visit_refusal m = elim m.next [
  | Next.Task t ↦ cond (m.number == last_number) (Some Refusal.LastNumber) None
  | Next.Stopped ↦ Some Refusal.Stopped
]

-- where a visit stands before its first statement
abbrev pub at_begin : Source → List ℕ → Plain → Standing
at_begin p row m = elim m.next [
  | Next.Task t ↦ starting (task_of p t.number) row m.variables
  | Next.Stopped ↦ starting [] row m.variables
]

-- A visit that is begun ends where the machine's next visit does.
abbrev pub Begun : List ℕ → Running → Result Visit Refusal → Type 0
Begun row m (Ok v) =
    (visit_refusal m.state ≡ None) × (m.state.number < last_number) × (standing v ≡ at_begin (program_source m.program) row m.state)
    × (left_by m.state.number (ends (standing v)) ≡ after_visit (program_source m.program) row m.state)
Begun row m (Err e) = visit_refusal m.state ≡ Some e

-- A visit is made, or refused with nothing altered.
abbrev pub Visited : List ℕ → Running → Result (Unit {0}) Refusal → Running → Type 0
Visited row m (Ok _) n = (visit_refusal m.state ≡ None) × (n ≡ moved_to m (after_visit (program_source m.program) row m.state))
Visited row m (Err e) n = (visit_refusal m.state ≡ Some e) × (n ≡ m)

-- m with this row becomes n: of the same program, and standing where one row more of any series of visits leads
pub record Continues (row : List ℕ) (m n : Running) : Type 0 where
  pub program : n.program ≡ m.program
  pub state : (rows : ℕ → List ℕ) (i : ℕ) → row ≡ rows i → m.state ≡ after_rows (program_source m.program) rows i → n.state ≡ after_rows (program_source m.program) rows (i + 1)

-- The page fills a buffer of its length, and leaves any other as it was.
abbrev pub Paged : Plain → List ℕ → Result (Unit {0}) WrongLength → List ℕ → Type 0
Paged m before (Ok _) filled = (length before ≡ length (page m)) × (filled ≡ page m)
Paged m before (Err _) filled = (length before ≢ length (page m)) × (filled ≡ before)
