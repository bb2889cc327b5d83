-- The statements of the tasks in one table.
use Rattle.std.specs.Prelude.{◌≡◌, ℕ, ◌+◌, ◌≤◌, List, [], ◌∷◌, take, drop}
use Rattle.std.proofs.Props.{props}
use Rattle.program.specs.declared.span.Span.{Span}
use Rattle.program.specs.declared.statement.Statement.{Statement}

-- the statements of a span
abbrev pub part : List Statement → Span → List Statement
part table span = take span.size (drop span.first table)

-- The spans lie one behind the other from start to end, each of at most 64 statements.
abbrev pub LieBehind : ℕ → List Span → ℕ → Type 0
LieBehind start [] end = start ≡ end
LieBehind start (span ∷ more) end = (span.first ≡ start) × (span.size ≤ 64) × LieBehind (start + span.size) more end

-- a proposition: it can hold in one way at most
pub LieBehind-prop : (start : ℕ) (spans : List Span) (end : ℕ) → IsProp (LieBehind start spans end)
LieBehind-prop start [] end = Prim.hlevel props
LieBehind-prop start (span ∷ more) end = let rest = LieBehind-prop (start + span.size) more end in Prim.hlevel (props, rest)
