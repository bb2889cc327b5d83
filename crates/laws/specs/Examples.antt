-- What runs, paths and the write-after-read rule come to on examples.
use Rattle.std.specs.Prelude.{◌≡◌, ℕ, T, List, [], ◌∷◌, replicate, nat_lt}
use Rattle.std.proofs.Common.{lit<, lit≤}
use Rattle.program.specs.declared.statement.Index.{Index}
use Rattle.program.specs.declared.statement.Operand.{Operand}
use Rattle.program.specs.declared.statement.Operator.{Operator}
use Rattle.program.specs.declared.statement.Comparison.{Comparison}
use Rattle.program.specs.declared.statement.Target.{Target}
use Rattle.program.specs.declared.statement.Next.{Next}
use Rattle.program.specs.declared.statement.Statement.{Statement}
use Rattle.program.specs.Runs.{Run, result_of, exec}
use Rattle.program.specs.Paths.{paths, Logged}

-- number n of at most N
abbrev pub index : {N : ℕ} (n : ℕ) → T (nat_lt n N) → Index N
index n known = record { number = n; known = lit< known }

-- set n a + k
abbrev pub set_plus : Target → Operand → ℕ → Statement
set_plus n a k = Statement.Set n a Operator.Plus (Operand.Number k)

-- set t in0 + 14; set due t + 0; set n n + 1; emit due; next a
abbrev pub lending : List Statement
lending =
    let due : Index 48 = index 0 tt in
    let n : Index 48 = index 1 tt in
    let t : Index 8 = index 0 tt in
    let a : Index 16 = index 0 tt in
    set_plus (Target.Local t) (Operand.Input (index 0 tt)) 14
    ∷ set_plus (Target.Variable due) (Operand.Local t) 0
    ∷ set_plus (Target.Variable n) (Operand.Variable n) 1
    ∷ Statement.Emit (Operand.Variable due)
    ∷ Statement.Next a
    ∷ []

-- its run from a row that begins with 100, due 0 and n 5
abbrev pub lent : Run
lent = exec 0 lending (record { inputs = 100 ∷ replicate 7 0; variables = 0 ∷ 5 ∷ []; locals = replicate 8 0; emitted = []; chosen = Next.Stopped })

-- skip 1 in0 = 0
abbrev pub skipping : Statement
skipping =
    Statement.Skip
    (record { count = 1; near = (lit< tt, lit≤ tt) })
    (record { left = Operand.Input (index 0 tt); comparison = Comparison.Equal; right = Operand.Number 0 })

-- set v k + 0, with v the variable 0
abbrev pub v_becomes : ℕ → Statement
v_becomes k = set_plus (Target.Variable (index 0 tt)) (Operand.Number k) 0

-- set u v + 0, with u the variable 1
abbrev pub u_becomes_v : Statement
u_becomes_v = set_plus (Target.Variable (index 1 tt)) (Operand.Variable (index 0 tt)) 0

-- skip 1 in0 = 0; set v 1 + 0; set u v + 0; and the rest
abbrev pub branching : List Statement → List Statement
branching rest = skipping ∷ v_becomes 1 ∷ u_becomes_v ∷ rest

-- set v 2 + 0; stop
abbrev pub v_again : List Statement
v_again = v_becomes 2 ∷ Statement.Stop ∷ []

pub record ExamplesHold : Type 0 where
  -- n is logged and due is not; v is logged if it is set again behind its reader, and otherwise not
  pub n_logged : Logged lending 1
  pub due_not : Logged lending 0 → ⊥
  pub v_logged : Logged (branching v_again) 0
  pub v_not : Logged (branching (Statement.Stop ∷ [])) 0 → ⊥
  -- one skip makes two paths
  pub two_paths : paths 0 (branching v_again) ≡ branching v_again ∷ (skipping ∷ u_becomes_v ∷ v_again) ∷ []
  -- a run
  pub lent_variables : lent.variables ≡ 114 ∷ 6 ∷ []
  pub lent_record : lent.emitted ≡ 114 ∷ []
  pub lent_next : lent.chosen ≡ Next.Task (index 0 tt)
  -- the operators
  pub sum_wraps : result_of Operator.Plus 65535 1 ≡ 0
  pub difference_wraps : result_of Operator.Minus 0 1 ≡ 65535
  pub quotient_by_0 : (x : ℕ) → result_of Operator.Quotient x 0 ≡ 0
  pub remainder_by_0 : (x : ℕ) → result_of Operator.Remainder x 0 ≡ 0
  pub quotient : result_of Operator.Quotient 7 2 ≡ 3
  pub remainder : result_of Operator.Remainder 7 2 ≡ 1
  pub and_bits : result_of Operator.And 12 10 ≡ 8
  pub or_bits : result_of Operator.Or 12 10 ≡ 14
  pub xor_bits : result_of Operator.Xor 12 10 ≡ 6
