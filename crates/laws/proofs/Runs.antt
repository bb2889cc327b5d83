-- A run, statement by statement.
use Rattle.std.proofs.Common.{◌≡◌, ℕ, zero, suc, ◌+◌, ◌<◌, List, [], ◌∷◌, length, get_or, drop, refl, ap, ◌∙◌}
use Rattle.std.proofs.lemmas.List.{drop_more, drop-drop}
use Rattle.program.specs.declared.statement.Statement.{Statement}
use Rattle.program.specs.Runs.{Run, after, passes, exec, taken}

-- to pass over k statements is to drop them
pub exec-drop : (k : ℕ) (task : List Statement) (σ : Run) → exec k task σ ≡ exec 0 (drop k task) σ
exec-drop zero task σ = refl
exec-drop (suc k) [] σ = refl
exec-drop (suc k) (s ∷ rest) σ = exec-drop k rest σ

pub taken-drop : (k : ℕ) (task : List Statement) (σ : Run) → taken k task σ ≡ taken 0 (drop k task) σ
taken-drop zero task σ = refl
taken-drop (suc k) [] σ = refl
taken-drop (suc k) (s ∷ rest) σ = taken-drop k rest σ

-- one statement, and then those behind it that are not passed over
module _ (task : List Statement) (i : ℕ) (τ : Run) (s d : Statement) (h : i < length task) (read : s ≡ get_or task i d) where
  here : drop i task ≡ s ∷ drop (i + 1) task
  here = rw read (drop_more task i d h)

  pub exec_on : exec 0 (drop i task) τ ≡ exec 0 (drop (i + 1 + passes s τ) task) (after s τ)
  exec_on = ap (λ xs. exec 0 xs τ) here ∙ exec-drop (passes s τ) (drop (i + 1) task) (after s τ) ∙ simp drop-drop

  pub taken_on : taken 0 (drop i task) τ ≡ s ∷ taken 0 (drop (i + 1 + passes s τ) task) (after s τ)
  taken_on = ap (λ xs. taken 0 xs τ) here ∙ ap (λ π. s ∷ π) (taken-drop (passes s τ) (drop (i + 1) task) (after s τ) ∙ simp drop-drop)
