-- What a program says as a value, and when it is well formed.
use Rattle.std.specs.Prelude.{ℕ, ◌+◌, ◌-◌, Bool, true, cond, not, ◌&&◌, List, [], ◌∷◌, length, ◌==◌, nat_le, nat_lt, slice_index_or}
use Rattle.program.specs.declared.statement.Operand.{Operand}
use Rattle.program.specs.declared.statement.Target.{Target}
use Rattle.program.specs.declared.statement.Statement.{Statement}
use Rattle.program.specs.declared.check.Scope.{Scope}
use Rattle.std.specs.List.{list_all}
use Rattle.program.specs.Shapes.{operands, targets, choices, ways, ending}
use Rattle.program.specs.Paths.{paths, emitted_on}

-- A program: the first value of each variable, the number of locals, and the statements of each task.
pub record Source : Type 0 where
  pub firsts : List ℕ
  pub locals : ℕ
  pub tasks : List (List Statement)

-- how much it declares
abbrev pub scope_of : Source → Scope
scope_of p = record { variables = length p.firsts; locals = p.locals; tasks = length p.tasks }

abbrev pub operand_declared : Scope → Operand → Bool
operand_declared scope (Operand.Number n) = true
operand_declared scope (Operand.Variable v) = nat_lt v.number scope.variables
operand_declared scope (Operand.Local l) = nat_lt l.number scope.locals
operand_declared scope (Operand.Input i) = true

abbrev pub target_declared : Scope → Target → Bool
target_declared scope (Target.Variable v) = nat_lt v.number scope.variables
target_declared scope (Target.Local l) = nat_lt l.number scope.locals

-- what the statement names is declared
abbrev pub declared : Scope → Statement → Bool
declared scope s = list_all (operand_declared scope) (operands s) && (list_all (target_declared scope) (targets s) && list_all (λ t. nat_lt t.number scope.tasks) (choices s))

-- With n statements behind it: the last is an ending and no other is, and a skip leads at most to the ending.
abbrev pub placed : Statement → ℕ → Bool
placed s n = cond (n == 0) (ending s) (not (ending s)) && list_all (λ k. nat_le k (n - 1)) (ways s)

abbrev pub all_placed : Scope → List Statement → Bool
all_placed scope [] = true
all_placed scope (s ∷ rest) = (declared scope s && placed s (length rest)) && all_placed scope rest

-- no path adds more than eight words to the record
abbrev pub few_emits : List Statement → Bool
few_emits task = list_all (λ π. nat_le (emitted_on π) 8) (paths 0 task)

-- A well-formed task has 1 to 64 statements.
abbrev pub task_sound : Scope → List Statement → Bool
task_sound scope task = (nat_lt 0 (length task) && nat_le (length task) 64) && (all_placed scope task && few_emits task)

-- the statements of task t
abbrev pub task_of : Source → ℕ → List Statement
task_of p t = slice_index_or p.tasks t []

-- task t is well formed among what the program declares
abbrev pub sound_at : Source → ℕ → Bool
sound_at p t = task_sound (scope_of p) (task_of p t)

-- how many statements the tasks have in all
abbrev pub total : List (List Statement) → ℕ
total [] = 0
total (task ∷ more) = length task + total more

-- A well-formed program has at most 48 variables, 8 locals and 256 statements in 1 to 16 well-formed tasks.
abbrev pub counts_sound : Source → Bool
counts_sound p = (nat_le (length p.firsts) 48 && nat_le p.locals 8) && ((nat_lt 0 (length p.tasks) && nat_le (length p.tasks) 16) && nat_le (total p.tasks) 256)

abbrev pub sound : Source → Bool
sound p = counts_sound p && list_all (task_sound (scope_of p)) p.tasks
