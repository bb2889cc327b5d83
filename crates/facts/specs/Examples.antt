-- What facts over paths come to on examples.
use Rattle.std.specs.Prelude.{◌≡◌, ℕ, ◌==◌, List, [], ◌∷◌, Some}
use Rattle.std.specs.List.{list_any}
use Rattle.program.specs.declared.statement.Statement.{Statement}
use Rattle.laws.specs.Examples.{lending, branching, v_again}
use Rattle.facts.specs.declared.set.VariableSet.{VariableSet}
use Rattle.facts.specs.Sets.{set_of}
use Rattle.facts.specs.Joins.{over_paths}
use Rattle.facts.specs.Touched.{untouched, touch, meet, touched_over}
use Rattle.facts.specs.Bounds.{most_of_task, logged_count, most_visit_stores, most_visit_steps}

-- the set of the variables with these numbers
abbrev pub these : List ℕ → VariableSet
these vs = set_of (λ v. list_any (λ w. w == v) vs)

-- the example with the skip, with its last set, and without it
abbrev pub set_again : List Statement
set_again = branching v_again

abbrev pub set_once : List Statement
set_once = branching (Statement.Stop ∷ [])

pub record ExamplesHold : Type 0 where
  -- due is written, and n is read and then written
  pub lending_touched : touched_over lending ≡ record { written = these (0 ∷ 1 ∷ []); read_first = these (1 ∷ []); logged = these (1 ∷ []) }
  -- v is logged if it is set again behind its reader, and otherwise not
  pub again_touched : touched_over set_again ≡ record { written = these (0 ∷ 1 ∷ []); read_first = these (0 ∷ []); logged = these (0 ∷ []) }
  pub once_touched : touched_over set_once ≡ record { written = these (1 ∷ []); read_first = these (0 ∷ []); logged = these [] }
  -- the same, joined over the paths
  pub again_joined : over_paths untouched touch meet set_again ≡ Some (touched_over set_again)
  pub once_joined : over_paths untouched touch meet set_once ≡ Some (touched_over set_once)
  -- emits, direct sets, logged variables and the bounds
  pub lending_most : most_of_task lending ≡ record { emits = 1; direct = 1 }
  pub again_most : most_of_task set_again ≡ record { emits = 0; direct = 1 }
  pub once_most : most_of_task set_once ≡ record { emits = 0; direct = 2 }
  pub lending_bounds : (logged_count lending ≡ 1) × (most_visit_stores lending ≡ 27) × (most_visit_steps lending ≡ 90)
  pub again_bounds : (logged_count set_again ≡ 1) × (most_visit_stores set_again ≡ 23) × (most_visit_steps set_again ≡ 86)
  pub once_bounds : (logged_count set_once ≡ 0) × (most_visit_stores set_once ≡ 20) × (most_visit_steps set_once ≡ 82)
