-- Sets of variables, by their members.
use Rattle.std.specs.Prelude.{ℕ, Bool, false, not, ◌&&◌, ◌||◌, ◌==◌, List, map}
use Rattle.std.specs.List.{count_by, range_with_len}
use Rattle.std.specs.Int.{bit_at}
use Rattle.std.specs.Simd.Lanes.{mask_l}
use Rattle.std.proofs.lemmas.Simd.{mask_l-lt}
use Rattle.facts.specs.declared.set.VariableSet.{VariableSet}

-- the numbers of all variables
abbrev pub variables : List ℕ
variables = range_with_len 0 48

-- the variable v is in the set
abbrev pub has : VariableSet → ℕ → Bool
has set v = bit_at set.bits v == 1

-- how many members the set has
abbrev pub size : VariableSet → ℕ
size set = count_by (has set) variables

-- the set of the variables that pass a test
abbrev pub set_of : (ℕ → Bool) → VariableSet
set_of test = record { bits = mask_l (map test variables); known = mask_l-lt (map test variables) }

-- The sets that others make. None of them unfolds by itself: a goal with the 48 tests of a set in it is too large to search.

unfoldable pub empty : VariableSet
empty = set_of (λ v. false)

unfoldable pub single : ℕ → VariableSet
single u = set_of (λ v. v == u)

unfoldable pub union : VariableSet → VariableSet → VariableSet
union a b = set_of (λ v. has a v || has b v)

unfoldable pub intersection : VariableSet → VariableSet → VariableSet
intersection a b = set_of (λ v. has a v && has b v)

-- those of a that are not of b
unfoldable pub difference : VariableSet → VariableSet → VariableSet
difference a b = set_of (λ v. has a v && not (has b v))

-- the set whose members are the 1 bits of a number
unfoldable pub of_bits : ℕ → VariableSet
of_bits n = set_of (λ v. bit_at n v == 1)
