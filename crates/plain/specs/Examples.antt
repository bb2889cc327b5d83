-- What well-formedness and the plain machine come to on examples.
use Rattle.std.specs.Prelude.{◌≡◌, ℕ, true, false, List, [], ◌∷◌, ◌++◌, replicate}
use Rattle.program.specs.declared.statement.Operand.{Operand}
use Rattle.program.specs.declared.statement.Statement.{Statement}
use Rattle.program.specs.Sound.{Source, sound}
use Rattle.laws.specs.Examples.{lending, skipping, v_becomes}
use Rattle.plain.specs.Plain.{plain_page}
use Rattle.plain.specs.Series.{row_at}

-- the rule of due dates: due is 0 and n is 5 at first, there is one local, and one task
abbrev pub due_date : Source
due_date = record { firsts = 0 ∷ 5 ∷ []; locals = 1; tasks = lending ∷ [] }

-- two visits, on the days 100 and 200
abbrev pub two_days : ℕ → List ℕ
two_days = row_at ((100 ∷ replicate 7 0) ∷ (200 ∷ replicate 7 0) ∷ [])

-- a program of one task over one variable
abbrev pub one_task : List Statement → Source
one_task task = record { firsts = 0 ∷ []; locals = 0; tasks = task ∷ [] }

-- so many emits, and a stop
abbrev pub emitting : ℕ → List Statement
emitting n = replicate n (Statement.Emit (Operand.Number 7)) ++ Statement.Stop ∷ []

pub record ExamplesHold : Type 0 where
  -- the pages of the rule of due dates
  pub due_date_sound : sound due_date ≡ true
  pub before_any : plain_page due_date two_days 0 ≡ 0 ∷ 0 ∷ 0 ∷ 0 ∷ 0 ∷ 0 ∷ 0 ∷ 0 ∷ 0 ∷ 0 ∷ 0 ∷ 0 ∷ 0 ∷ 5 ∷ []
  pub after_one : plain_page due_date two_days 1 ≡ 1 ∷ 0 ∷ 0 ∷ 1 ∷ 114 ∷ 0 ∷ 0 ∷ 0 ∷ 0 ∷ 0 ∷ 0 ∷ 0 ∷ 114 ∷ 6 ∷ []
  pub after_two : plain_page due_date two_days 2 ≡ 2 ∷ 0 ∷ 0 ∷ 1 ∷ 214 ∷ 0 ∷ 0 ∷ 0 ∷ 0 ∷ 0 ∷ 0 ∷ 0 ∷ 214 ∷ 7 ∷ []
  -- a stop shows as 16, and nothing follows it
  pub stopped_page : plain_page (one_task (v_becomes 3 ∷ Statement.Stop ∷ [])) two_days 1 ≡ 1 ∷ 0 ∷ 16 ∷ 0 ∷ 0 ∷ 0 ∷ 0 ∷ 0 ∷ 0 ∷ 0 ∷ 0 ∷ 0 ∷ 3 ∷ []
  pub still_stopped : plain_page (one_task (v_becomes 3 ∷ Statement.Stop ∷ [])) two_days 2 ≡ plain_page (one_task (v_becomes 3 ∷ Statement.Stop ∷ [])) two_days 1
  -- an ending is last and only there, and a skip leads to it at most
  pub no_ending : sound (one_task (v_becomes 3 ∷ [])) ≡ false
  pub two_endings : sound (one_task (Statement.Stop ∷ Statement.Stop ∷ [])) ≡ false
  pub no_statement : sound (one_task []) ≡ false
  pub to_the_ending : sound (one_task (skipping ∷ v_becomes 3 ∷ Statement.Stop ∷ [])) ≡ true
  pub beyond_the_ending : sound (one_task (skipping ∷ Statement.Stop ∷ [])) ≡ false
  -- a record has eight words
  pub eight_emits : sound (one_task (emitting 8)) ≡ true
  pub nine_emits : sound (one_task (emitting 9)) ≡ false
