-- Which line is allowed after those before it, and which passes a limit.
use Rattle.std.specs.Prelude.{ℕ, ◌+◌, Bool, true, false, not, ◌||◌, cond, ◌==◌, nat_le, List, length, Option, Some, None}
use Rattle.std.specs.List.{count_by, fold}
use Rattle.text.specs.declared.refusal.Place.{Place}
use Rattle.text.specs.declared.refusal.Refusal.{Refusal}
use Rattle.text.specs.Tokens.{Tok, first_place}
use Rattle.forms.specs.Forms.{Line, Sentence, variable, local, task, statement, set, emit, skip, next, choose, stop, form_of, slots}
use Rattle.grammar.specs.Names.{Declared, names_of}
use Rattle.grammar.specs.Reading.{first_of, slot_offence}

-- an ending says what comes at the next visit
abbrev pub ends : Sentence → Bool
ends (set n a o b) = false
ends (emit a) = false
ends (skip k a c b) = false
ends (next t) = true
ends (choose t a c b u) = true
ends stop = true

-- behind this line a task is without its ending
abbrev pub leaves_open : Line → Bool
leaves_open (variable n v) = false
leaves_open (local n) = false
leaves_open (task n) = true
leaves_open (statement s) = not (ends s)

abbrev pub is_statement : Line → Bool
is_statement (variable n v) = false
is_statement (local n) = false
is_statement (task n) = false
is_statement (statement s) = true

-- how many statements the last task has with this line, n without it
abbrev pub counted : ℕ → Line → ℕ
counted n (variable m v) = 0
counted n (local m) = 0
counted n (task m) = 0
counted n (statement s) = n + 1

-- What a line is judged by: what the lines before it declare, whether the last of them leaves a task without its ending, and
-- how many statements there are, in all and in the last task.
pub record Point : Type 0 where
  pub names : Declared
  pub unfinished : Bool
  pub statements : ℕ
  pub size : ℕ

abbrev pub point_of : List Line → Point
point_of lines = record {
  names = names_of lines;
  unfinished = fold (λ before line. leaves_open line) false lines;
  statements = count_by is_statement lines;
  size = fold counted 0 lines;
}

-- Declarations stand before the first task, a task where none is unfinished, and statements in an unfinished task.
abbrev pub allowed : Point → Line → Bool
allowed p (variable n v) = length p.names.tasks == 0
allowed p (local n) = length p.names.tasks == 0
allowed p (task n) = not p.unfinished
allowed p (statement s) = p.unfinished

-- There is no task, or the last one has no ending.
abbrev pub is_unfinished : Point → Bool
is_unfinished p = length p.names.tasks == 0 || p.unfinished

-- the line passes a limit
abbrev pub full : Point → Line → Bool
full p (variable n v) = nat_le 48 (length p.names.variables)
full p (local n) = nat_le 8 (length p.names.locals)
full p (task n) = nat_le 16 (length p.names.tasks)
full p (statement s) = nat_le 64 p.size || nat_le 256 p.statements

-- A line's offence: no form allowed at that point; then a limit; then its tokens from the left.
abbrev pub judged : Point → Place → Option Line → Option Refusal
judged p place None = Some (Refusal.Form place)
judged p place (Some line) = cond (allowed p line) (cond (full p line) (Some (Refusal.Limit place)) (first_of (slot_offence p.names) (slots line))) (Some (Refusal.Form place))

abbrev pub line_offence : Point → List Tok → Option Refusal
line_offence p ts = judged p (first_place ts) (form_of ts)
