-- Laws of the rule of three cells: for every unit and every test that decides whether two are equal, and over every memory's value.
use Rattle.std.specs.Prelude.{◌≡◌, ℕ, ◌<◌, ◌≤◌, Bool, true, List, [], ◌∷◌, None, Decides, Option, Result}
use Rattle.memory.specs.declared.doubt.Doubt.{Doubt}
use Rattle.memory.specs.declared.fault.Raised.{Raised}
use Rattle.memory.specs.declared.fault.Unmade.{Unmade}
use Rattle.memory.specs.Value.{Limits, Value}
use Rattle.cells.specs.declared.triple.Triple.{Triple}
use Rattle.cells.specs.Triple.{Either, Equal, To, Underway, mends, put, reads, to_all}
use Rattle.cells.specs.Cells.{stored_to, thirds}
use Rattle.cells.specs.Three.{Follows, MadeAbove, Recovers, RelitAbove, StoredAbove, ThreeLawful, judged, unequal}

abbrev pub Test : {T : Type 0} → (T → T → Bool) → Type 0
Test {T} same = (x y : T) → Decides (same x y) (x ≡ y)

-- Whatever a cut leaves in the cell that was being stored, the cells are on the way from the old unit to the new.
abbrev pub Safe : {T : Type 0} → T → T → Triple T → List (To T) → Type 0
Safe old new t [] = Unit {0}
Safe {T} old new t (s ∷ rest) = ((x : T) → Underway old new (put s.cell x t)) × Safe old new (put s.cell s.unit t) rest

-- the cells after all stores
abbrev pub puts : {T : Type 0} → Triple T → List (To T) → Triple T
puts t [] = t
puts t (s ∷ rest) = puts (put s.cell s.unit t) rest

-- Cells on the way from an old unit to a new one read as one of the two.
abbrev pub ReadsOldOrNew : Type 0 → Type 0
ReadsOldOrNew T = (same : T → T → Bool) → Test same → (old new : T) (t : Triple T) → Underway old new t → Either old new (reads same t)

-- A unit stored to three equal cells is on its way at every cut, and when all are stored they are equal and hold it.
abbrev pub StoresThroughACut : Type 0 → Type 0
StoresThroughACut T = (old new : T) (t : Triple T) → Equal t → t.b ≡ old → Safe old new t (to_all new) × Equal (puts t (to_all new)) × ((puts t (to_all new)).b ≡ new)

-- So are cells that are mended, at every cut; mended, they are equal and hold what they read as before.
abbrev pub MendsThroughACut : Type 0 → Type 0
MendsThroughACut T = (same : T → T → Bool) → Test same → (old new : T) (t : Triple T) → Underway old new t → Safe old new t (mends same t) × Equal (puts t (mends same t)) × ((puts t (mends same t)).b ≡ reads same t)

-- Over any memory, three stores are one store of the memory above: all made, or cut with the word in doubt.
abbrev pub ThreeStoresAreOne : Type 0
ThreeStoresAreOne =
    (below : Value) → Limits below → ThreeLawful below true None → (p w : ℕ) → p < thirds below.words
    → (r : Result (Unit {0}) Raised) (after : Value) → Follows (stored_to below p (to_all w)) r after → StoredAbove below p w r after

-- A relight below, with all words mended, is a relight above: what was in doubt is settled, or as it was.
abbrev pub MendingIsARelight : Type 0
MendingIsARelight =
    (below : Value) → Limits below → (lit : Bool) (doubt : Option Doubt) → ThreeLawful below lit doubt → (charge : ℕ)
    → (r : Result (Unit {0}) Raised) (after : Value) → Recovers below charge r after → RelitAbove below lit doubt charge r after

-- What is made over a lit memory with at most one unequal word is lawful.
abbrev pub MakingIsLawful : Type 0
MakingIsLawful =
    (below : Value) → Limits below → below.lit ≡ true → below.kind.price ≤ 3 → below.kind.dues ≤ 2
    → (r : Result (Option Doubt) Unmade) → r ≡ judged (unequal below.words (thirds below.words)) → MadeAbove below r
