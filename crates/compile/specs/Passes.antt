-- What the passes over a text's lines come to.
use Rattle.std.specs.Prelude.{◌≡◌, ℕ, ◌<◌, Bool, false, true, cond, List, [], length, slice_index_or, Option, Some, None, Ok, Err, Result}
use Rattle.std.specs.List.{filter_map, list_all}
use Rattle.std.specs.Option.{is_some}
use Rattle.std.specs.Result.{result_err}
use Rattle.program.specs.Drafts as program
use Rattle.program.specs.Drafts.{last_task}
use Rattle.program.specs.declared.draft.Draft.{Draft}
use Rattle.program.specs.declared.program.Program.{Program}
use Rattle.program.specs.Programs.{program_source}
use Rattle.program.specs.Sound.{Source, total}
use Rattle.text.specs.declared.refusal.Place.{Place}
use Rattle.text.specs.Refusals.{nowhere}
use Rattle.text.specs.declared.refusal.Refusal.{Refusal}
use Rattle.text.specs.Tokens.{Tok, first_place}
use Rattle.forms.specs.Forms.{Line, variable, local, task, statement, form_of}
use Rattle.grammar.specs.Names.{Declared}
use Rattle.grammar.specs.Reading.{read_sentence}
use Rattle.grammar.specs.declared.standing.Standing.{Standing}
use Rattle.grammar.specs.Judging.{is_unfinished, point_of}
use Rattle.grammar.specs.Standing.{point}
use Rattle.rounds.specs.Source.{adds, source_of}
use Rattle.rounds.specs.Rounds.{emits_round, first_line, forms_of, is_ending, line_round, name_round, skip_round}

-- No line offends, and this is what the lines come to; or this is the first offence.
abbrev pub Judged : List (List Tok) → Result Standing Refusal → Type 0
Judged lines (Ok s) = (first_line line_round [] lines ≡ None) × (point s ≡ point_of (forms_of lines))
Judged lines (Err e) = first_line line_round [] lines ≡ Some e

-- each line has a form
abbrev pub all_formed : List (List Tok) → Bool
all_formed lines = list_all (λ ts. is_some (form_of ts)) lines

-- an ending, if it is one
abbrev pub ends_task : Option Line → Bool
ends_task None = false
ends_task (Some line) = is_ending line

-- there is room for what a line adds
abbrev pub HasRoom : Source → Line → Type 0
HasRoom p (variable n v) = length p.firsts < 48
HasRoom p (local n) = p.locals < 8
HasRoom p (task n) = length p.tasks < 16
HasRoom p (statement s) = (0 < length p.tasks) × (length (last_task p.tasks) < 64) × (total p.tasks < 256)

-- what is not read of a line
abbrev pub line_read : Declared → Line → Option Refusal
line_read d (variable n v) = None
line_read d (local n) = None
line_read d (task n) = None
line_read d (statement s) = result_err (read_sentence d s)

-- what a line says is added, or it is not read
abbrev pub Adds : Declared → Line → Source → Result (Unit {0}) Refusal → Source → Type 0
Adds d l p (Ok _) q = (line_read d l ≡ None) × (q ≡ adds d p l)
Adds d l p (Err e) q = line_read d l ≡ Some e

-- The program that the lines say; or their first name of a task that is none.
abbrev pub Says : List (List Tok) → Result Draft Refusal → Type 0
Says lines (Ok draft) = (first_line (name_round (forms_of lines)) [] lines ≡ None) × (program.source_of draft ≡ source_of (forms_of lines))
Says lines (Err e) = first_line (name_round (forms_of lines)) [] lines ≡ Some e

-- a line that opens a task, if it is one
abbrev pub opens_task : Option Line → Bool
opens_task None = false
opens_task (Some (variable n v)) = false
opens_task (Some (local n)) = false
opens_task (Some (task n)) = true
opens_task (Some (statement s)) = false

-- where the lines stand that open a task
abbrev pub place_of_task : Place → Option Line → Option Place
place_of_task place line = cond (opens_task line) (Some place) None

abbrev pub task_places : List (List Tok) → List Place
task_places lines = filter_map (λ ts. place_of_task (first_place ts) (form_of ts)) lines

abbrev pub task_place : List (List Tok) → ℕ → Place
task_place lines t = slice_index_or (task_places lines) t nowhere

-- the rounds before the one of tasks have no offence
pub record Fine (lines : List (List Tok)) : Type 0 where
  pub judged : first_line line_round [] lines ≡ None
  pub ended : is_unfinished (point_of (forms_of lines)) ≡ false
  pub named : first_line (name_round (forms_of lines)) [] lines ≡ None
  pub skips : first_line skip_round [] lines ≡ None

-- The program of the lines; or the first task with a path of too many emits.
abbrev pub Checked : List (List Tok) → Result Program Refusal → Type 0
Checked lines (Ok p) = (first_line (emits_round (forms_of lines)) [] lines ≡ None) × (program_source p ≡ source_of (forms_of lines))
Checked lines (Err e) = first_line (emits_round (forms_of lines)) [] lines ≡ Some e
