-- What the facts of tasks and the bounds of programs come to on examples.
use Rattle.std.specs.Prelude.{◌≡◌, List, [], ◌∷◌, ◌++◌, replicate}
use Rattle.program.specs.declared.statement.Statement.{Statement}
use Rattle.laws.specs.Examples.{lending, v_becomes}
use Rattle.facts.specs.Bounds.{most_visit_stores, most_visit_steps}
use Rattle.facts.specs.Examples.{these}
use Rattle.facts.specs.Most.{largest}
use Rattle.rules.specs.Known.{task_facts}

-- set v 1 + 0, twelve times; stop
abbrev pub storing : List Statement
storing = replicate 12 (v_becomes 1) ++ Statement.Stop ∷ []

pub record ExamplesHold : Type 0 where
  pub lending_facts : task_facts lending ≡ record { logged = these (1 ∷ []); emits = 1; direct = 1 }
  pub storing_facts : task_facts storing ≡ record { logged = these []; emits = 0; direct = 12 }
  -- D and S of a program with the one task
  pub lending_alone : (largest most_visit_stores (lending ∷ []) ≡ 27) × (largest most_visit_steps (lending ∷ []) ≡ 90)
  -- D is of the second task, and S of the first
  pub with_storing : (largest most_visit_stores (lending ∷ storing ∷ []) ≡ 30) × (largest most_visit_steps (lending ∷ storing ∷ []) ≡ 90)
  -- and in the other order
  pub storing_first : (largest most_visit_stores (storing ∷ lending ∷ []) ≡ 30) × (largest most_visit_steps (storing ∷ lending ∷ []) ≡ 90)
