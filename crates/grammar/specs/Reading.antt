-- What the tokens of a line are read as, and which of them offends.
use Rattle.std.specs.Prelude.{ℕ, not, ◌&&◌, cond, List, [], ◌∷◌, Option, None, Ok, Err, Result}
use Rattle.std.specs.Option.{option_and_then, option_map, option_or, ok_or}
use Rattle.std.specs.Result.{result_err}
use Rattle.program.specs.declared.statement.Index.{Index}
use Rattle.program.specs.declared.statement.Reach.{Reach}
use Rattle.program.specs.declared.statement.Statement.{Statement}
use Rattle.program.specs.declared.statement.Target.{Target}
use Rattle.program.specs.declared.statement.Comparison.{Comparison}
use Rattle.program.specs.declared.statement.Test.{Test}
use Rattle.program.specs.declared.statement.Operand.{Operand}
use Rattle.program.specs.Runs.{reading}
use Rattle.text.specs.declared.refusal.Refusal.{Refusal}
use Rattle.text.specs.Tokens.{Tok, word, number, comment, sign, text_of, place_of}
use Rattle.forms.specs.Words.{input_of, is_name, number_of, reach_of}
use Rattle.forms.specs.Forms.{Sentence, set, emit, skip, next, choose, stop, Slot, key, sign as written, new_name, first_word, target, operand, reach, task_name}
use Rattle.grammar.specs.Names.{Declared, index_in, index_of, is_declared, reach_with}

-- the variable or local of this name
abbrev pub target_named : Declared → List ℕ → Option Target
target_named d name = option_or (option_map Target.Variable (index_in d.variables name)) (option_map Target.Local (index_in d.locals name))

-- one of in0 to in7
abbrev pub input_named : List ℕ → Option (Index 8)
input_named name = option_and_then index_of (input_of name)

-- the reach that a number writes
abbrev pub reach_written : List ℕ → Option Reach
reach_written text = option_and_then reach_with (reach_of text)

-- one of in0 to in7, or a variable or local
abbrev pub operand_named : Declared → List ℕ → Option Operand
operand_named d name = option_or (option_map Operand.Input (input_named name)) (option_map reading (target_named d name))

-- An operand that begins with a digit is a number.
abbrev pub read_operand : Declared → Tok → Result Operand Refusal
read_operand d (number text p) = ok_or (option_map Operand.Number (number_of text)) (Refusal.Number p)
read_operand d (word text p) = ok_or (operand_named d text) (Refusal.Unknown p)
read_operand d (comment text p) = ok_or (operand_named d text) (Refusal.Unknown p)
read_operand d (sign text p) = ok_or (operand_named d text) (Refusal.Unknown p)

abbrev pub read_target : Declared → Tok → Result Target Refusal
read_target d t = ok_or (target_named d (text_of t)) (Refusal.Unknown (place_of t))

abbrev pub read_task : Declared → Tok → Result (Index 16) Refusal
read_task d t = ok_or (index_in d.tasks (text_of t)) (Refusal.Unknown (place_of t))

-- a name that is not declared yet
abbrev pub read_name : Declared → Tok → Result (List ℕ) Refusal
read_name d t = cond (is_name (text_of t) && not (is_declared d (text_of t))) (Ok (text_of t)) (Err (Refusal.Name (place_of t)))

abbrev pub read_number : Tok → Result ℕ Refusal
read_number t = ok_or (number_of (text_of t)) (Refusal.Number (place_of t))

abbrev pub read_reach : Tok → Result Reach Refusal
read_reach t = ok_or (reach_written (text_of t)) (Refusal.Number (place_of t))

-- what is read from the left: the first refusal, or what is made of all
abbrev pub then : {A B : Type 0} → Result A Refusal → (A → Result B Refusal) → Result B Refusal
then (Ok x) make = make x
then (Err e) make = Err e

abbrev pub read_test : Declared → Tok → Comparison → Tok → Result Test Refusal
read_test d a c b = then (read_operand d a) (λ left. then (read_operand d b) (λ right. Ok (record { left = left; comparison = c; right = right })))

-- A statement, with the names that the whole text declares.
abbrev pub read_sentence : Declared → Sentence → Result Statement Refusal
read_sentence d (set n a o b) = then (read_target d n) (λ target. then (read_operand d a) (λ left. then (read_operand d b) (λ right. Ok (Statement.Set target left o right))))
read_sentence d (emit a) = then (read_operand d a) (λ operand. Ok (Statement.Emit operand))
read_sentence d (skip k a c b) = then (read_reach k) (λ reach. then (read_test d a c b) (λ test. Ok (Statement.Skip reach test)))
read_sentence d (next t) = then (read_task d t) (λ task. Ok (Statement.Next task))
read_sentence d (choose t a c b u) = then (read_task d t) (λ chosen. then (read_test d a c b) (λ test. then (read_task d u) (λ otherwise. Ok (Statement.Choose test chosen otherwise))))
read_sentence d stop = Ok Statement.Stop

-- What offends in the round of lines, where the names of tasks are not looked at: a task may be named before its line.
abbrev pub slot_offence : Declared → Slot → Option Refusal
slot_offence d (key text) = None
slot_offence d (written text) = None
slot_offence d (new_name t) = result_err (read_name d t)
slot_offence d (first_word t) = result_err (read_number t)
slot_offence d (target t) = result_err (read_target d t)
slot_offence d (operand t) = result_err (read_operand d t)
slot_offence d (reach t) = result_err (read_reach t)
slot_offence d (task_name t) = None

-- what offends in the round of task names
abbrev pub name_offence : Declared → Slot → Option Refusal
name_offence d (key text) = None
name_offence d (written text) = None
name_offence d (new_name t) = None
name_offence d (first_word t) = None
name_offence d (target t) = None
name_offence d (operand t) = None
name_offence d (reach t) = None
name_offence d (task_name t) = result_err (read_task d t)

-- the first offence of some things in a row
abbrev pub first_of : {A B : Type 0} → (A → Option B) → List A → Option B
first_of offence [] = None
first_of offence (x ∷ xs) = option_or (offence x) (first_of offence xs)
