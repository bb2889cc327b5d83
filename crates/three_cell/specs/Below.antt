-- What is done to the memory below, by what that memory means.
use Rattle.std.specs.Prelude.{◌≡◌, ℕ, ◌+◌, ◌*◌, ◌<◌, ◌≤◌, true, not, List, length, is_some, None, Ok, Err, Option, Result, slice_index}
use Rattle.memory.specs.declared.doubt.Doubt.{Doubt}
use Rattle.memory.specs.declared.fault.Fault.{Fault}
use Rattle.memory.specs.declared.fault.Raised.{Raised}
use Rattle.memory.specs.declared.fault.Unmade.{Unmade}
use Rattle.memory.specs.declared.interface.Memory.{Ghosts}
use Rattle.memory.specs.declared.light.Light.{Light}
use Rattle.memory.specs.Light.{answer_at, doubt_of, is_lit}
use Rattle.cells.specs.declared.triple.Triple.{Triple}
use Rattle.cells.specs.Triple.{To}
use Rattle.cells.specs.Cells.{mended, stored_to, thirds, triple_at, words_of}
use Rattle.cells.specs.Three.{Follows, MadeAbove, Recovers, StoredAbove, ThreeLawful, doubt_at, judged, made_over, unequal}

module _ {M : Type 0} (memory : Ghosts M) where
  abbrev words_in : M → List ℕ
  words_in m = (memory.seen m).words

  -- the last scrap given is as it was
  abbrev pub KeepsScrap : M → M → Type 0
  KeepsScrap m after = (s : ℕ) → memory.given m s → memory.given after s

  -- stores to the cells of word p, one after the other
  abbrev pub Stores : M → ℕ → List (To ℕ) → Result (Unit {0}) Raised → M → Type 0
  Stores m p ss r after = memory.lawful m → memory.lawful after × Follows (stored_to (memory.seen m) p ss) r (memory.seen after)

  -- a word stored to its three cells, by what that comes to above
  abbrev pub StoresWord : M → ℕ → ℕ → Result (Unit {0}) Raised → M → Type 0
  StoresWord m p w r after = memory.lawful m → ThreeLawful (memory.seen m) true None → p < thirds (words_in m) → StoredAbove (memory.seen m) p w r (memory.seen after)

  -- word p mended, where there is one
  abbrev pub Mends : M → ℕ → Result (Unit {0}) Raised → M → Type 0
  Mends m p r after = memory.lawful m → (memory.seen m).lit ≡ true → 3 * p + 2 < length (words_in m) → memory.lawful after × Follows (mended (memory.seen m) p) r (memory.seen after)

  abbrev pub RelightsAll : M → ℕ → Result (Unit {0}) Raised → M → Type 0
  RelightsAll m charge r after = memory.lawful m → memory.lawful after × Recovers (memory.seen m) charge r (memory.seen after)

  -- the cells of word p; 3 if dark, 4 if the last of them is not below the length
  abbrev pub ReadsCells : M → ℕ → Result (Triple ℕ) Fault → Type 0
  ReadsCells m p r = memory.lawful m → r ≡ answer_at (memory.seen m).lit (3 * p + 2) (length (words_in m)) (Ok (triple_at (words_in m) p))

  abbrev pub ReadsWord : M → ℕ → Result ℕ Fault → Type 0
  ReadsWord m p r = memory.lawful m → (memory.seen m).lit ≡ true → p < thirds (words_in m) → r ≡ Ok (slice_index (words_of (words_in m)) p)

  -- what is in doubt in word p, in all words, and in a memory made above
  abbrev pub Doubts : M → ℕ → Option Doubt → Type 0
  Doubts m p r = memory.lawful m → (memory.seen m).lit ≡ true → 3 * p + 2 < length (words_in m) → r ≡ doubt_at (words_in m) p

  abbrev pub ScansAll : M → Result (Option Doubt) Unmade → Type 0
  ScansAll m r = memory.lawful m → (memory.seen m).lit ≡ true → r ≡ judged (unequal (words_in m) (thirds (words_in m)))

  abbrev pub FitsAbove : M → Result (Option Doubt) Unmade → Type 0
  FitsAbove m r = memory.lawful m → (memory.seen m).lit ≡ true → (memory.seen m).kind.price ≤ 3 → (memory.seen m).kind.dues ≤ 2 → MadeAbove (memory.seen m) r

  -- the light of a memory made above, or why none is made
  abbrev pub Lights : M → Result Light Unmade → Type 0
  Lights m (Ok light) = (is_lit light ≡ not (is_some (doubt_of light))) × (memory.lawful m → (made_over (memory.seen m) ≡ Ok (doubt_of light)) × ThreeLawful (memory.seen m) (is_lit light) (doubt_of light))
  Lights m (Err why) = memory.lawful m → made_over (memory.seen m) ≡ Err why
