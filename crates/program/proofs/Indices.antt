-- Two indices with one number are one.
use mathlib.Core.HLevel.{is_prop→PathP}
use Rattle.std.proofs.Common.{◌≡◌, ℕ, ◌<◌}
use native.Mathlib.Bridge.{le_prop}
use Rattle.program.specs.declared.statement.Index.{Index}

pub same_index : {N : ℕ} (a b : Index N) → a.number ≡ b.number → a ≡ b
same_index {N} a b e = λ i. record { number = e i; known = is_prop→PathP (λ j. e j < N) (λ j. le_prop) a.known b.known i }
