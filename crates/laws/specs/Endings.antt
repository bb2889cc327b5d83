-- Where the paths of a well-formed task end.
use Rattle.std.specs.Prelude.{◌≡◌, Bool, true, false, not, ◌&&◌, List, [], ◌∷◌}
use Rattle.program.specs.declared.statement.Statement.{Statement}
use Rattle.program.specs.Shapes.{ending}
use Rattle.program.specs.declared.check.Scope.{Scope}
use Rattle.program.specs.Paths.{paths, ◌∈◌}
use Rattle.program.specs.Sound.{task_sound}

-- the last statement of the path is an ending, and no other is
abbrev pub ends_once : List Statement → Bool
ends_once [] = false
ends_once (s ∷ []) = ending s
ends_once (s ∷ (r ∷ π)) = not (ending s) && ends_once (r ∷ π)

-- Whatever the program declares, every path of a well-formed task ends in an ending, and has no other.
abbrev pub EndsOnce : Type 0
EndsOnce = (scope : Scope) (task : List Statement) → task_sound scope task ≡ true → (π : List Statement) → π ∈ paths 0 task → ends_once π ≡ true
