-- The run of a task: what operands, operators and tests come to, what a statement does, and where the run ends.
use Rattle.std.specs.Prelude.{ℕ, zero, suc, ◌+◌, ◌-◌, ◌/◌, ◌%◌, Bool, cond, List, [], ◌∷◌, ◌++◌, ◌==◌, bit_and, bit_or, bit_xor, nat_lt, slice_index, slice_set}
use Rattle.program.specs.declared.statement.Operand.{Operand}
use Rattle.program.specs.declared.statement.Operator.{Operator}
use Rattle.program.specs.declared.statement.Comparison.{Comparison}
use Rattle.program.specs.declared.statement.Test.{Test}
use Rattle.program.specs.declared.statement.Target.{Target}
use Rattle.program.specs.declared.statement.Statement.{Statement}
use Rattle.program.specs.declared.statement.Next.{Next}

-- the word of what comes next: the task's number, or 16 after a stop
abbrev pub next_word : Next → ℕ
next_word (Next.Task t) = t.number
next_word Next.Stopped = 16

-- A run of a task so far: the visit's row, the variables, the locals, the record, and what the ending chose.
pub record Run : Type 0 where
  pub inputs : List ℕ
  pub variables : List ℕ
  pub locals : List ℕ
  pub emitted : List ℕ
  pub chosen : Next

abbrev pub value : Run → Operand → ℕ
value σ (Operand.Number n) = n
value σ (Operand.Variable v) = slice_index σ.variables v.number
value σ (Operand.Local l) = slice_index σ.locals l.number
value σ (Operand.Input i) = slice_index σ.inputs i.number

-- the operand that reads what a set alters
abbrev pub reading : Target → Operand
reading (Target.Variable v) = Operand.Variable v
reading (Target.Local l) = Operand.Local l

-- Sum and difference are modulo 65,536; a divisor 0 gives 0.
abbrev pub result_of : Operator → ℕ → ℕ → ℕ
result_of Operator.Plus a b = (a + b) % 65536
result_of Operator.Minus a b = (a + 65536 - b) % 65536
result_of Operator.And a b = bit_and a b
result_of Operator.Or a b = bit_or a b
result_of Operator.Xor a b = bit_xor a b
result_of Operator.Quotient a b = cond (b == 0) 0 (a / b)
result_of Operator.Remainder a b = cond (b == 0) 0 (a % b)

abbrev pub compares : Comparison → ℕ → ℕ → Bool
compares Comparison.Equal a b = a == b
compares Comparison.Less a b = nat_lt a b

abbrev pub holds : Run → Test → Bool
holds σ t = compares t.comparison (value σ t.left) (value σ t.right)

abbrev pub assign : Target → ℕ → Run → Run
assign (Target.Variable v) x σ = record { inputs = σ.inputs; variables = slice_set σ.variables v.number x; locals = σ.locals; emitted = σ.emitted; chosen = σ.chosen }
assign (Target.Local l) x σ = record { inputs = σ.inputs; variables = σ.variables; locals = slice_set σ.locals l.number x; emitted = σ.emitted; chosen = σ.chosen }

abbrev pub emit : ℕ → Run → Run
emit x σ = record { inputs = σ.inputs; variables = σ.variables; locals = σ.locals; emitted = σ.emitted ++ x ∷ []; chosen = σ.chosen }

abbrev pub choose : Next → Run → Run
choose n σ = record { inputs = σ.inputs; variables = σ.variables; locals = σ.locals; emitted = σ.emitted; chosen = n }

-- the run after one statement
abbrev pub after : Statement → Run → Run
after Statement.Stop σ = choose Next.Stopped σ
after (Statement.Set n a o b) σ = assign n (result_of o (value σ a) (value σ b)) σ
after (Statement.Emit a) σ = emit (value σ a) σ
after (Statement.Skip k t) σ = σ
after (Statement.Next t) σ = choose (Next.Task t) σ
after (Statement.Choose c t u) σ = choose (cond (holds σ c) (Next.Task t) (Next.Task u)) σ

-- how many statements behind it are passed over
abbrev pub passes : Statement → Run → ℕ
passes Statement.Stop σ = 0
passes (Statement.Set n a o b) σ = 0
passes (Statement.Emit a) σ = 0
passes (Statement.Skip k t) σ = cond (holds σ t) k.count 0
passes (Statement.Next t) σ = 0
passes (Statement.Choose c t u) σ = 0

-- The whole run, with k statements still to be passed over. A task's ending is its last statement.
abbrev pub exec : ℕ → List Statement → Run → Run
exec k [] σ = σ
exec (suc k) (s ∷ rest) σ = exec k rest σ
exec zero (s ∷ rest) σ = exec (passes s σ) rest (after s σ)

-- the path taken: the statements that the run comes to, in order
abbrev pub taken : ℕ → List Statement → Run → List Statement
taken k [] σ = []
taken (suc k) (s ∷ rest) σ = taken k rest σ
taken zero (s ∷ rest) σ = s ∷ taken (passes s σ) rest (after s σ)
