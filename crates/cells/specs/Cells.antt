-- Words in three cells of a memory below, and the stores that go there.
use Rattle.std.specs.Prelude.{ℕ, zero, suc, ◌+◌, ◌-◌, ◌*◌, ◌/◌, cond, List, [], ◌∷◌, map, length, Ok, Err, Result, nat_eq, nat_lt, slice_index}
use Rattle.std.specs.List.{range_with_len}
use Rattle.memory.specs.declared.fault.Fault.{Fault}
use Rattle.memory.specs.Value.{Kind, Value, write_answer, written}
use Rattle.cells.specs.declared.triple.Triple.{Triple}
use Rattle.cells.specs.Triple.{A, B, C, Cell, To, mends, reads}

-- the place below of a cell of word p
abbrev pub place_of : Cell → ℕ → ℕ
place_of A p = 3 * p
place_of B p = 3 * p + 1
place_of C p = 3 * p + 2

-- the cells of word p
abbrev pub triple_at : List ℕ → ℕ → Triple ℕ
triple_at words p = record { a = slice_index words (3 * p); b = slice_index words (3 * p + 1); c = slice_index words (3 * p + 2) }

-- how many words there are: places over are unused
abbrev pub thirds : List ℕ → ℕ
thirds words = length words / 3

-- word p, as its cells read
abbrev pub word_of : List ℕ → ℕ → ℕ
word_of words p = reads nat_eq (triple_at words p)

-- all words
abbrev pub words_of : List ℕ → List ℕ
words_of words = map (word_of words) (range_with_len 0 (thirds words))

-- what was answered, and the memory then
pub record Outcome : Type 0 where
  pub answer : Result (Unit {0}) Fault
  pub value : Value

-- Stores to the cells of word p, one after the other; the first that is refused ends them.
abbrev pub stored_to : Value → ℕ → List (To ℕ) → Outcome
stored_to v p [] = record { answer = Ok tt; value = v }
stored_to v p (s ∷ rest) = elim (write_answer v (place_of s.cell p)) [
  | Ok u ↦ stored_to (written v (place_of s.cell p) s.unit) p rest
  | Err e ↦ record { answer = Err e; value = written v (place_of s.cell p) s.unit }
]

-- Word p is mended.
abbrev pub mended : Value → ℕ → Outcome
mended v p = stored_to v p (mends nat_eq (triple_at v.words p))

-- The first n words are mended, upward; the first store that is refused ends it.
abbrev pub mended_below : Value → ℕ → Outcome
mended_below v zero = record { answer = Ok tt; value = v }
mended_below v (suc n) = elim (mended_below v n).answer [ Ok u ↦ mended (mended_below v n).value n | Err e ↦ mended_below v n ]

-- the place in the lowest memory at which stores to these cells are cut, by the charge that is left
abbrev pub lowest_of : Kind → ℕ → ℕ → List Cell → ℕ
lowest_of k charge p [] = 0
lowest_of k charge p (c ∷ rest) = cond (nat_lt charge k.price) (k.lowest charge (place_of c p)) (lowest_of k (charge - k.price) p rest)
