-- What is told of some texts.
use Rattle.std.specs.Prelude.{◌≡◌, ℕ, ◌<◌, List, [], ◌∷◌, ◌++◌, length, Option, Some, None, codes}
use Rattle.std.specs.List.{repeat}
use Rattle.std.specs.Option.{option_map}
use Rattle.text.specs.declared.refusal.Told.{Told}
use Rattle.text.specs.Refusals.{told_of}
use Rattle.rounds.specs.Rounds.{text_offence}

infixr 60 ◌⏎◌
-- a line, the byte 10 that ends it, and what stands behind
abbrev pub ◌⏎◌ : List ℕ → List ℕ → List ℕ
line ⏎ rest = line ++ 10 ∷ rest

abbrev pub told : List ℕ → Option Told
told text = option_map told_of (text_offence text)

-- a number, a line and a byte
abbrev pub at : ℕ → ℕ → ℕ → Option Told
at number line byte = Some (record { number = number; line = line; byte = byte })

-- a task with 64 statements and no ending
abbrev pub full_task : List ℕ
full_task = codes "task a" ⏎ repeat 64 (codes "emit 1" ⏎ [])

-- the rule of due dates
abbrev pub due_rule : List ℕ
due_rule = codes "var due 0" ⏎ codes "var n 5" ⏎ codes "loc t" ⏎ codes "task a" ⏎ codes "set t in0 + 14" ⏎ codes "set due t + 0" ⏎ codes "set n n + 1" ⏎ codes "emit due" ⏎ codes "next a" ⏎ []

pub record ExamplesHold : Type 0 where
  pub nothing : told [] ≡ at 18 0 0
  pub no_task : told (codes "var a 1" ⏎ []) ≡ at 18 0 8
  pub no_ending : told (codes "task a" ⏎ codes "emit in0" ⏎ []) ≡ at 18 0 16
  pub input_declared : told (codes "var in3 0" ⏎ []) ≡ at 13 1 4
  pub first_too_large : told (codes "var a 65536" ⏎ []) ≡ at 15 1 6
  pub declared_twice : told (codes "# due dates" ⏎ [] ⏎ codes "loc t" ⏎ codes "task t" ⏎ codes "stop" ⏎ []) ≡ at 13 4 24
  pub no_operator : told (codes "task a" ⏎ codes "  set x 1 * 2" ⏎ codes "stop" ⏎ []) ≡ at 12 2 9
  pub unknown_target : told (codes "task a" ⏎ codes "set x 1 + 2" ⏎ codes "stop" ⏎ []) ≡ at 14 2 11
  pub no_number : told (codes "task a" ⏎ codes "emit 9x" ⏎ codes "stop" ⏎ []) ≡ at 15 2 12
  pub number_as_task : told (codes "task a" ⏎ codes "next 7" ⏎ []) ≡ at 14 2 12
  pub unknown_task : told (codes "task a" ⏎ codes "next a in0 = 0 b") ≡ at 14 2 22
  pub skips_too_far : told (codes "task a" ⏎ codes "skip 1 in0 = 0" ⏎ codes "stop" ⏎ []) ≡ at 17 2 7
  pub behind_the_ending : told (codes "task a" ⏎ codes "emit 1" ⏎ codes "stop" ⏎ codes "emit 2" ⏎ []) ≡ at 12 4 19
  -- further numbers; a limit comes before the tokens
  pub too_long : (text : List ℕ) → 16384 < length text → told text ≡ at 10 0 0
  pub tabulator : told (codes "stop" ⏎ codes "a" ++ 9 ∷ []) ≡ at 11 2 6
  pub ninth_local :
      told (codes "loc a" ⏎ codes "loc b" ⏎ codes "loc c" ⏎ codes "loc d" ⏎ codes "loc e" ⏎ codes "loc f" ⏎ codes "loc g" ⏎ codes "loc h" ⏎ codes "loc 9" ⏎ []) ≡ at 16 9 48
  pub nine_emits : told (codes "task a" ⏎ codes "next b" ⏎ codes "task b" ⏎ repeat 9 (codes "emit 1" ⏎ []) ++ codes "stop") ≡ at 19 3 14
  -- A 64th statement may be no ending; what stands behind it then offends.
  pub statement_65 : told (full_task ++ codes "stop") ≡ at 16 66 455
  pub task_behind : told (full_task ++ codes "task b") ≡ at 12 66 455
  pub nothing_behind : told full_task ≡ at 18 0 455
  -- easily missed
  pub late_variable : told (codes "task a" ⏎ codes "var 9 x" ⏎ []) ≡ at 12 2 7
  pub comment_behind : told (codes "task a" ⏎ codes "stop # done" ⏎ []) ≡ at 12 2 7
  pub six_digits : told (codes "var a 000007" ⏎ []) ≡ at 15 1 6
  pub skips_none : told (codes "task a" ⏎ codes "skip 0 a = b" ⏎ []) ≡ at 15 2 12
  pub skips_sixteen : told (codes "task a" ⏎ codes "skip 16 a = b" ⏎ []) ≡ at 15 2 12
  pub skips_a_name : told (codes "task a" ⏎ codes "skip x a = b" ⏎ []) ≡ at 15 2 12
  pub signed : told (codes "task a" ⏎ codes "emit -5" ⏎ []) ≡ at 14 2 12
  pub ninth_input : told (codes "task a" ⏎ codes "emit in8" ⏎ []) ≡ at 14 2 12
  -- texts that are accepted
  pub declared_in8 : text_offence (codes "loc in8" ⏎ codes "task a" ⏎ codes "emit in8" ⏎ codes "stop") ≡ None
  pub keywords_named : text_offence (codes "var set 00007" ⏎ codes "task task" ⏎ codes "set set set + 1" ⏎ codes "next task") ≡ None
  pub skips_to_the_ending : text_offence (codes "task a" ⏎ codes "skip 1 in0 = 0" ⏎ codes "emit 1" ⏎ codes "stop" ⏎ []) ≡ None
  pub due_dates : text_offence due_rule ≡ None
