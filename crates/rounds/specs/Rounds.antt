-- The rounds in which a text is looked over, and its first offence.
use Rattle.std.specs.Prelude.{ℕ, Bool, false, cond, List, [], ◌∷◌, ◌++◌, length, take, Option, Some, None}
use Rattle.std.specs.List.{filter_map, list_any}
use Rattle.std.specs.Option.{option_or, unwrap_or}
use Rattle.program.specs.Sound.{few_emits, task_of}
use Rattle.text.specs.declared.refusal.Place.{Place}
use Rattle.text.specs.declared.refusal.Refusal.{Refusal}
use Rattle.text.specs.Tokens.{Tok, first_place, lines_of, text_of}
use Rattle.text.specs.Readable.{byte_offence, length_offence}
use Rattle.forms.specs.Words.{reach_of}
use Rattle.forms.specs.Forms.{Line, Sentence, Slot, variable, local, task, statement, set, emit, skip, next, choose, stop, form_of, slots}
use Rattle.grammar.specs.Names.{names_of}
use Rattle.grammar.specs.Reading.{first_of, name_offence}
use Rattle.grammar.specs.Judging.{ends, is_unfinished, line_offence, point_of}
use Rattle.rounds.specs.Source.{source_of}

-- the forms of lines
abbrev pub forms_of : List (List Tok) → List Line
forms_of lines = filter_map form_of lines

-- The first offence of lines, each looked at with the lines before it and those behind it.
unfoldable pub first_line : (List Line → List Tok → List Line → Option Refusal) → List Line → List (List Tok) → Option Refusal
first_line offence before [] = None
first_line offence before (line ∷ behind) = option_or (offence before line (forms_of behind)) (first_line offence (before ++ forms_of (line ∷ [])) behind)

-- The round of lines: a line is judged by those before it.
abbrev pub line_round : List Line → List Tok → List Line → Option Refusal
line_round before line behind = line_offence (point_of before) line

-- The end of a text of so many bytes.
abbrev pub end_offence : ℕ → List Line → Option Refusal
end_offence size lines = cond (is_unfinished (point_of lines)) (Some (Refusal.Unfinished size)) None

abbrev pub slots_of_line : Option Line → List Slot
slots_of_line None = []
slots_of_line (Some line) = slots line

-- The round of `next`: its names are tasks of the text.
abbrev pub name_round : List Line → List Line → List Tok → List Line → Option Refusal
name_round whole before line behind = first_of (name_offence (names_of whole)) (slots_of_line (form_of line))

-- how many statements may be passed over
abbrev pub passed_by : Sentence → ℕ
passed_by (set n a o b) = 0
passed_by (emit a) = 0
passed_by (skip k a c b) = unwrap_or (reach_of (text_of k)) 0
passed_by (next t) = 0
passed_by (choose t a c b u) = 0
passed_by stop = 0

abbrev pub passed_behind : Option Line → ℕ
passed_behind None = 0
passed_behind (Some (variable n v)) = 0
passed_behind (Some (local n)) = 0
passed_behind (Some (task n)) = 0
passed_behind (Some (statement s)) = passed_by s

-- an ending
abbrev pub is_ending : Line → Bool
is_ending (variable n v) = false
is_ending (local n) = false
is_ending (task n) = false
is_ending (statement s) = ends s

-- The round of skips: none passes over its task's ending.
abbrev pub skip_round : List Line → List Tok → List Line → Option Refusal
skip_round before line behind = cond (list_any is_ending (take (passed_behind (form_of line)) behind)) (Some (Refusal.Skip (first_place line))) None

-- The round of tasks: no path adds more than eight words to the record. A task is numbered by the tasks before it.
abbrev pub emits_offence : List Line → List Line → Place → Option Line → Option Refusal
emits_offence whole before place None = None
emits_offence whole before place (Some (variable n v)) = None
emits_offence whole before place (Some (local n)) = None
emits_offence whole before place (Some (task n)) = cond (few_emits (task_of (source_of whole) (length (names_of before).tasks))) None (Some (Refusal.Emits place))
emits_offence whole before place (Some (statement s)) = None

abbrev pub emits_round : List Line → List Line → List Tok → List Line → Option Refusal
emits_round whole before line behind = emits_offence whole before (first_place line) (form_of line)

-- The rounds over a text that can be read, each with its first offence.
abbrev pub rounds : ℕ → List (List Tok) → List (Option Refusal)
rounds size lines =
    let whole = forms_of lines in
    first_line line_round [] lines
    ∷ end_offence size whole
    ∷ first_line (name_round whole) [] lines
    ∷ first_line skip_round [] lines
    ∷ first_line (emits_round whole) [] lines
    ∷ []

-- The first offence of the first round that has one.
unfoldable pub text_offence : List ℕ → Option Refusal
text_offence text = first_of (λ offence. offence) (length_offence text ∷ byte_offence text ∷ rounds (length text) (lines_of text))
