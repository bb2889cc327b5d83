-- The join of many facts, and of the facts along all paths of a task.
use Rattle.std.specs.Prelude.{◌≡◌, List, map, Option, Some}
use Rattle.std.specs.List.{fold, reduce}
use Rattle.program.specs.declared.statement.Statement.{Statement}
use Rattle.program.specs.Paths.{paths}

-- what a fact comes to along a path
abbrev pub along : {F : Type 0} → (Statement → F → F) → F → List Statement → F
along effect f π = fold (λ g s. effect s g) f π

-- the join, over all paths of a task, of the start fact taken along each; there is none without a path, and a task has one
abbrev pub over_paths : {F : Type 0} → F → (Statement → F → F) → (F → F → F) → List Statement → Option F
over_paths start effect join task = reduce join (map (along effect start) (paths 0 task))

-- f is that join
abbrev pub IsOverPaths : {F : Type 0} → F → (Statement → F → F) → (F → F → F) → List Statement → F → Type 0
IsOverPaths start effect join task f = Some f ≡ over_paths start effect join task

-- r is made of facts that Of holds of, each taken once or more
pub data Made {F : Type 0} (join : F → F → F) (Of : F → Type 0) : F → Type 0 where
  one : {f : F} → Of f → Made join Of f
  both : {f g : F} → Made join Of f → Made join Of g → Made join Of (join f g)

-- r is the join of all the facts that Of holds of: it is made of them, and of nothing else, and it covers each
pub record IsJoin {F : Type 0} (join : F → F → F) (Of : F → Type 0) (r : F) : Type 0 where
  pub made : Made join Of r
  pub covers : (f : F) → Of f → join f r ≡ r
