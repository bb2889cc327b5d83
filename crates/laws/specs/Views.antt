-- A run on a split store: working copies for a set of variables, the logged ones, and memory for the others. The view is what a statement sees.
use Rattle.std.specs.Prelude.{◌≡◌, ℕ, zero, suc, ◌≤◌, Bool, cond, List, [], ◌∷◌, ◌++◌, length, slice_set}
use Rattle.program.specs.declared.statement.Target.{Target}
use Rattle.program.specs.declared.statement.Next.{Next}
use Rattle.program.specs.declared.statement.Statement.{Statement}
use Rattle.program.specs.Runs.{Run, value, result_of, holds, after, passes, exec}

-- A run with two words for each variable: one among the working copies and one in memory.
pub record Split : Type 0 where
  pub inputs : List ℕ
  pub copies : List ℕ
  pub memory : List ℕ
  pub locals : List ℕ
  pub emitted : List ℕ
  pub chosen : Next

-- the words ms, with those of cs in their place wherever p says so
abbrev pub overlay : (ℕ → Bool) → List ℕ → List ℕ → List ℕ
overlay p [] ms = ms
overlay p (c ∷ cs) [] = []
overlay p (c ∷ cs) (m ∷ ms) = cond (p 0) c m ∷ overlay (λ v. p (suc v)) cs ms

-- The view: a logged variable is its working copy, and any other is its word in memory.
abbrev pub seen : (ℕ → Bool) → Split → Run
seen logged β = record { inputs = β.inputs; variables = overlay logged β.copies β.memory; locals = β.locals; emitted = β.emitted; chosen = β.chosen }

abbrev pub put_copy : ℕ → ℕ → Split → Split
put_copy v x β = record { inputs = β.inputs; copies = slice_set β.copies v x; memory = β.memory; locals = β.locals; emitted = β.emitted; chosen = β.chosen }

abbrev pub put_memory : ℕ → ℕ → Split → Split
put_memory v x β = record { inputs = β.inputs; copies = β.copies; memory = slice_set β.memory v x; locals = β.locals; emitted = β.emitted; chosen = β.chosen }

abbrev pub put_local : ℕ → ℕ → Split → Split
put_local l x β = record { inputs = β.inputs; copies = β.copies; memory = β.memory; locals = slice_set β.locals l x; emitted = β.emitted; chosen = β.chosen }

abbrev pub put_emit : ℕ → Split → Split
put_emit x β = record { inputs = β.inputs; copies = β.copies; memory = β.memory; locals = β.locals; emitted = β.emitted ++ x ∷ []; chosen = β.chosen }

abbrev pub put_chosen : Next → Split → Split
put_chosen n β = record { inputs = β.inputs; copies = β.copies; memory = β.memory; locals = β.locals; emitted = β.emitted; chosen = n }

-- A variable that is not logged is stored to memory at once. Nothing else alters memory.
abbrev pub put : (ℕ → Bool) → Target → ℕ → Split → Split
put logged (Target.Variable v) x β = cond (logged v.number) (put_copy v.number x β) (put_memory v.number x β)
put logged (Target.Local l) x β = put_local l.number x β

-- the split store after one statement
abbrev pub split_after : (ℕ → Bool) → Statement → Split → Split
split_after logged Statement.Stop β = put_chosen Next.Stopped β
split_after logged (Statement.Set n a o b) β = put logged n (result_of o (value (seen logged β) a) (value (seen logged β) b)) β
split_after logged (Statement.Emit a) β = put_emit (value (seen logged β) a) β
split_after logged (Statement.Skip k t) β = β
split_after logged (Statement.Next t) β = put_chosen (Next.Task t) β
split_after logged (Statement.Choose c t u) β = put_chosen (cond (holds (seen logged β) c) (Next.Task t) (Next.Task u)) β

-- the whole run, with k statements still to be passed over
abbrev pub split_exec : (ℕ → Bool) → ℕ → List Statement → Split → Split
split_exec logged k [] β = β
split_exec logged (suc k) (s ∷ rest) β = split_exec logged k rest β
split_exec logged zero (s ∷ rest) β = split_exec logged (passes s (seen logged β)) rest (split_after logged s β)

-- each variable has room for a working copy
abbrev pub Room : Split → Type 0
Room β = length β.memory ≤ length β.copies

-- One statement on the split store does to the view what it does to a run.
abbrev pub ViewsStep : Type 0
ViewsStep = (logged : ℕ → Bool) (s : Statement) (β : Split) → Room β → seen logged (split_after logged s β) ≡ after s (seen logged β)

-- So does a whole task.
abbrev pub ViewsRun : Type 0
ViewsRun =
    (logged : ℕ → Bool) (k : ℕ) (task : List Statement) (β : Split) → Room β
    → seen logged (split_exec logged k task β) ≡ exec k task (seen logged β)
