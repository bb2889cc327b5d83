-- The paths of a task, what is read and written on them, and the write-after-read rule.
use Rattle.std.specs.Prelude.{◌≡◌, ℕ, zero, suc, ◌+◌, Bool, true, false, not, ◌&&◌, ◌||◌, ◌⊎◌, List, [], ◌∷◌, ◌++◌, map, ◌==◌}
use Rattle.std.specs.List.{flat_map, list_any}
use Rattle.program.specs.declared.statement.Operand.{Operand}
use Rattle.program.specs.declared.statement.Target.{Target}
use Rattle.program.specs.declared.statement.Statement.{Statement}
use Rattle.program.specs.Shapes.{operands, targets, emits, ways}

-- All paths, with k statements still to be passed over; a path is the list of its statements.
abbrev pub paths : ℕ → List Statement → List (List Statement)
paths k [] = [] ∷ []
paths (suc k) (s ∷ rest) = paths k rest
paths zero (s ∷ rest) = map (λ π. s ∷ π) (flat_map (λ k. paths k rest) (ways s))

infix 50 ◌∈◌
-- membership in a list
abbrev pub ◌∈◌ : {A : Type 0} → A → List A → Type 0
x ∈ [] = ⊥
x ∈ (y ∷ ys) = (x ≡ y) ⊎ (x ∈ ys)

-- the operand is the variable v
abbrev pub operand_is : ℕ → Operand → Bool
operand_is v (Operand.Number n) = false
operand_is v (Operand.Variable u) = u.number == v
operand_is v (Operand.Local l) = false
operand_is v (Operand.Input i) = false

abbrev pub target_is : ℕ → Target → Bool
target_is v (Target.Variable u) = u.number == v
target_is v (Target.Local l) = false

-- s reads the variable v
abbrev pub reads : Statement → ℕ → Bool
reads s v = list_any (operand_is v) (operands s)

-- s writes the variable v
abbrev pub writes : Statement → ℕ → Bool
writes s v = list_any (target_is v) (targets s)

-- v is written on the path
abbrev pub written : List Statement → ℕ → Bool
written [] v = false
written (s ∷ π) v = writes s v || written π v

-- v is read on the path with no earlier write on it; a statement reads before it writes
abbrev pub read_first : List Statement → ℕ → Bool
read_first [] v = false
read_first (s ∷ π) v = reads s v || (not (writes s v) && read_first π v)

-- how many words the path adds to the record
abbrev pub emitted_on : List Statement → ℕ
emitted_on [] = 0
emitted_on (s ∷ π) = emits s + emitted_on π

-- The write-after-read rule on one path: some statement reads v, nothing before it writes v, and it or something after it writes v.
pub record LoggedOn (π : List Statement) (v : ℕ) : Type 0 where
  pub before : List Statement
  pub reader : Statement
  pub behind : List Statement
  pub parts : π ≡ before ++ reader ∷ behind
  pub reads_it : reads reader v ≡ true
  pub unwritten : written before v ≡ false
  pub then_written : written (reader ∷ behind) v ≡ true

-- over all paths of a task
abbrev pub Logged : List Statement → ℕ → Type 0
Logged task v = (π : List Statement) × (π ∈ paths 0 task) × LoggedOn π v

-- the same as a test that computes
abbrev pub logged_test : List Statement → ℕ → Bool
logged_test task v = list_any (λ π. read_first π v && written π v) (paths 0 task)
