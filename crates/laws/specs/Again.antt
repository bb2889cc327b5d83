-- What holds of every run of a task: its path, what it alters, and what a second run from altered variables does.
use Rattle.std.specs.Prelude.{◌≡◌, ℕ, ◌+◌, ◌≤◌, Bool, true, false, not, ◌&&◌, ◌↔◌, List, length, slice_index}
use Rattle.program.specs.declared.statement.Statement.{Statement}
use Rattle.program.specs.Runs.{Run, exec, taken}
use Rattle.program.specs.Paths.{paths, ◌∈◌, written, read_first, emitted_on, Logged, logged_test}

-- A k is how many statements are still to be passed over: 0 at the start of a task.

-- The path that a run takes is one of the task's paths.
abbrev pub TakesAPath : Type 0
TakesAPath = (k : ℕ) (task : List Statement) (σ : Run) → taken k task σ ∈ paths k task

-- A path has no more statements than its task.
abbrev pub PathsShort : Type 0
PathsShort = (k : ℕ) (task π : List Statement) → π ∈ paths k task → length π ≤ length task

-- A run adds to the record one word for each emit on its path.
abbrev pub EmitsCounted : Type 0
EmitsCounted = (k : ℕ) (task : List Statement) (σ : Run) → length (exec k task σ).emitted ≡ length σ.emitted + emitted_on (taken k task σ)

-- ys has as many words as xs, and the same ones outside W.
pub record SameOutside (W : ℕ → Bool) (xs ys : List ℕ) : Type 0 where
  pub size : length ys ≡ length xs
  pub words : (v : ℕ) → W v ≡ false → slice_index ys v ≡ slice_index xs v

-- A run alters no variable that its path does not write, nor how many there are.
abbrev pub KeepsUnwritten : Type 0
KeepsUnwritten = (k : ℕ) (task : List Statement) (σ : Run) → SameOutside (written (taken k task σ)) σ.variables (exec k task σ).variables

-- The rule logs exactly the variables that its test finds.
abbrev pub LoggedTested : Type 0
LoggedTested = (task : List Statement) (v : ℕ) → Logged task v ↔ (logged_test task v ≡ true)

-- A variable that a path writes and that is not logged is not read on that path before it is written.
abbrev pub UnloggedUnread : Type 0
UnloggedUnread =
    (task : List Statement) (v : ℕ) (π : List Statement) → π ∈ paths 0 task → written π v ≡ true → (Logged task v → ⊥) → read_first π v ≡ false

-- μ differs from σ in the variables of W at most.
pub record Agree (W : ℕ → Bool) (σ μ : Run) : Type 0 where
  pub inputs : μ.inputs ≡ σ.inputs
  pub locals : μ.locals ≡ σ.locals
  pub emitted : μ.emitted ≡ σ.emitted
  pub chosen : μ.chosen ≡ σ.chosen
  pub variables : SameOutside W σ.variables μ.variables

-- no variable of W is read on the path before it is written there
abbrev pub Unread : (ℕ → Bool) → List Statement → Type 0
Unread W π = (v : ℕ) → W v ≡ true → read_first π v ≡ false

-- the variables of W that the path does not write
abbrev pub unwritten : (ℕ → Bool) → List Statement → ℕ → Bool
unwritten W π v = not (written π v) && W v

-- A second run, from a start that differs only in variables that the path does not read before it writes them, takes the same path.
-- The ends differ only in those of them that the path does not write.
abbrev pub RunsAgain : Type 0
RunsAgain =
    (W : ℕ → Bool) (k : ℕ) (task : List Statement) (σ μ : Run) → Agree W σ μ → Unread W (taken k task σ)
    → (taken k task μ ≡ taken k task σ) × Agree (unwritten W (taken k task σ)) (exec k task σ) (exec k task μ)

-- If the path writes all of them, the ends are the same.
abbrev pub EndsAgain : Type 0
EndsAgain =
    (W : ℕ → Bool) (k : ℕ) (task : List Statement) (σ μ : Run) → Agree W σ μ → Unread W (taken k task σ)
    → ((v : ℕ) → W v ≡ true → written (taken k task σ) v ≡ true)
    → exec k task μ ≡ exec k task σ
