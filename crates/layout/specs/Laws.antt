-- When a log is whole: what open's test of it tells.
use Rattle.std.specs.Prelude.{◌≡◌, ◌↔◌, ◌⊎◌, ℕ, false, List, slice_index}
use Rattle.program.specs.declared.check.Scope.{Scope}
use Rattle.layout.specs.declared.store.Store.{Store}
use Rattle.layout.specs.Chains.{HasChain, log_astray}
use Rattle.layout.specs.Places.{head_place, log_place}

-- The head is 0, or it is the log's place and a whole chain stands there.
abbrev pub HasLog : Scope → List ℕ → Type 0
HasLog n ws = (slice_index ws head_place ≡ 0) ⊎ ((slice_index ws head_place ≡ log_place n.variables) × (es : List Store) × HasChain n ws es)

-- The log is not astray exactly when it is whole: the count of entries that are looked at never runs out on a whole chain.
abbrev pub AstrayTells : Type 0
AstrayTells = (n : Scope) (ws : List ℕ) → (log_astray n ws ≡ false) ↔ HasLog n ws
