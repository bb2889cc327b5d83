-- The laws of larger counts, where paths meet, and of counting on after a statement.
use Rattle.std.proofs.Common.{◌≡◌, ℕ, Bool, max, arith}
use Rattle.program.specs.declared.statement.Statement.{Statement}
use Rattle.facts.specs.declared.most.Counts.{Counts}
use Rattle.facts.specs.Most.{counted, larger, more}

pub same_counts : (c d : Counts) → c.emits ≡ d.emits → c.direct ≡ d.direct → c ≡ d
same_counts c d e f = λ i. record { emits = e i; direct = f i }

pub larger_associative : (a b c : Counts) → larger (larger a b) c ≡ larger a (larger b c)
larger_associative a b c = same_counts _ _ (omega arith) (omega arith)

pub larger_commutative : (a b : Counts) → larger a b ≡ larger b a
larger_commutative a b = same_counts _ _ (omega arith) (omega arith)

pub larger_idempotent : (a : Counts) → larger a a ≡ a
larger_idempotent a = same_counts _ _ (omega arith) (omega arith)

more_of_larger : (n x y : ℕ) → more n (max x y) ≡ max (more n x) (more n y)
more_of_larger n x y = omega arith

pub counted_distributes : (logged : ℕ → Bool) (s : Statement) (a b : Counts)
    → counted logged s (larger a b) ≡ larger (counted logged s a) (counted logged s b)
counted_distributes logged s a b = same_counts _ _ (more_of_larger _ a.emits b.emits) (more_of_larger _ a.direct b.direct)
