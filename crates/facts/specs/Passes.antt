-- What the pass answers, and what it pulls together at each place.
use Rattle.std.specs.Prelude.{◌≡◌, ℕ, ◌+◌, ◌<◌, ◌≤◌, Bool, true, ◌&&◌, nat_le, List, [], ◌∷◌, length, replicate, Some, Ok, Err, Result}
use Rattle.std.specs.List.{list_all, slice_get}
use Rattle.program.specs.declared.statement.Statement.{Statement}
use Rattle.program.specs.Shapes.{ways}
use Rattle.program.specs.Paths.{◌∈◌}
use Rattle.facts.specs.declared.pass.ShortScratch.{ShortScratch}

-- A scratch that held `before` then holds `after`. The answer is right, and start facts stand throughout; or the scratch is
-- short, and as it was.
abbrev pub Passed : {F : Type 0} → F → (F → Type 0) → List F → Result F ShortScratch → List F → Type 0
Passed start Right before (Ok f) after = (64 ≤ length before) × Right f × (after ≡ replicate (length before) start)
Passed start Right before (Err e) after = (length before < 64) × (after ≡ before)

-- no statement leads beyond the task
abbrev pub inside : List Statement → Bool
inside [] = true
inside (s ∷ rest) = list_all (λ k. nat_le k (length rest)) (ways s) && inside rest

-- f left a statement, at some place before `at`, that leads to `at`; `after` has the fact that left each
pub record LeadsTo {F : Type 0} (task : List Statement) (after : List F) (at : ℕ) (f : F) : Type 0 where
  pub from : ℕ
  pub statement : Statement
  pub passed : ℕ
  pub stands : slice_get task from ≡ Some statement
  pub may_pass : passed ∈ ways statement
  pub leads : at ≡ from + 1 + passed
  pub left : slice_get after from ≡ Some f
