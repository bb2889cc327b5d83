-- A three-cell memory as a value, and what its calls do to the memory below.
use Rattle.std.specs.Prelude.{◌≡◌, ℕ, zero, suc, ◌+◌, ◌*◌, ◌/◌, ◌<◌, ◌≤◌, Bool, true, false, cond, ◌||◌, ◌≢◌, ◌⊎◌, List, [], ◌∷◌, Some, None, Ok, Err, Option, Result, nat_eq, nat_lt, slice_index}
use Rattle.memory.specs.declared.doubt.Doubt.{Doubt}
use Rattle.memory.specs.declared.fault.Fault.{Fault}
use Rattle.memory.specs.declared.fault.Raised.{Raised}
use Rattle.memory.specs.declared.fault.Unmade.{Unmade}
use Rattle.memory.specs.declared.fault.Unmade.TheVariants as unmade
use Rattle.memory.specs.Faults.{raise}
use Rattle.memory.specs.Light.{left_at}
use Rattle.memory.specs.Value.{Kind, Value, SureWhen, DoubtBelow, MayHold, Relights, Wrote, settled}
use Rattle.cells.specs.Triple.{A, B, C, Equal, Underway, mends, to_all}
use Rattle.cells.specs.Cells.{Outcome, lowest_of, mended_below, stored_to, thirds, triple_at, words_of}

-- three stores for one, two more at a relight, and one layer more
abbrev pub three_kind : Kind → Kind
three_kind k = record {
  price = 3 * k.price;
  dues = k.dues + 2 * k.price;
  whole = true;
  layers = k.layers + 1;
  lowest = λ charge p. lowest_of k charge p (A ∷ B ∷ C ∷ []);
  buffer = k.buffer;
}

-- dark, it shows no charge
abbrev pub three_value : Value → Bool → Option Doubt → Value
three_value below lit doubt = record {
  words = settled doubt (words_of below.words);
  charge = cond lit below.charge 0;
  lit = lit;
  doubt = doubt;
  kind = three_kind below.kind;
}

-- an answer from below on its way up, with one layer more
abbrev pub raised : Result (Unit {0}) Fault → Result (Unit {0}) Raised
raised (Ok u) = Ok u
raised (Err e) = Err (record { 0 = raise e })

-- as it is handed on
abbrev pub handed_on : Result (Unit {0}) Raised → Result (Unit {0}) Fault
handed_on (Ok u) = Ok u
handed_on (Err e) = Err e.0

-- the memory below after such stores, and the answer on its way up
pub record Follows (o : Outcome) (r : Result (Unit {0}) Raised) (after : Value) : Type 0 where
  pub answer : r ≡ raised o.answer
  pub value : after ≡ o.value

-- what a write makes of the memory below: nothing where it is refused, else its three stores
abbrev pub below_after : Value → Bool → ℕ → ℕ → Value
below_after below lit p w = left_at lit p (thirds below.words) (stored_to below p (to_all w)).value below

-- A relight, by what the memory below then is: it is relit. If that is cut, so is this; otherwise all words are mended, upward.
abbrev pub Recovers : Value → ℕ → Result (Unit {0}) Raised → Value → Type 0
Recovers below charge r after =
    ((e : Fault) × Relights below charge (Err e) after × (r ≡ raised (Err e)))
    ⊎ ((lit : Value) × Relights below charge (Ok tt) lit × Follows (mended_below lit (thirds lit.words)) r after)

-- the same, with the answer as it is handed on
abbrev pub MendsAll : Value → ℕ → Result (Unit {0}) Fault → Value → Type 0
MendsAll below charge r after = (s : Result (Unit {0}) Raised) × (r ≡ handed_on s) × Recovers below charge s after

-- MAKING
-- a word whose cells are not equal is in doubt: C is the old word, A the new
abbrev pub between : List ℕ → ℕ → Doubt
between words p = record { place = p; old = (triple_at words p).c; new = (triple_at words p).a }

abbrev pub doubt_at : List ℕ → ℕ → Option Doubt
doubt_at words p = elim (mends nat_eq (triple_at words p)) [ [] ↦ None | s ∷ rest ↦ Some (between words p) ]

-- such words, of the first n
abbrev pub unequal : List ℕ → ℕ → List Doubt
unequal words zero = []
unequal words (suc n) = elim (doubt_at words n) [ None ↦ unequal words n | Some d ↦ d ∷ unequal words n ]

-- none may be unequal, or one
abbrev pub judged : List Doubt → Result (Option Doubt) Unmade
judged [] = Ok None
judged (d ∷ []) = Ok (Some d)
judged (d ∷ e ∷ rest) = Err unmade.Unequal

abbrev pub one_of : Option Doubt → Option Doubt → Result (Option Doubt) Unmade
one_of None next = Ok next
one_of (Some d) None = Ok (Some d)
one_of (Some d) (Some e) = Err unmade.Unequal

-- What is in doubt in a three-cell memory made over this one, or why none is made.
abbrev pub made_over : Value → Result (Option Doubt) Unmade
made_over v =
    cond v.lit
    (cond (nat_lt 3 v.kind.price || nat_lt 2 v.kind.dues) (Err unmade.Dear) (judged (unequal v.words (thirds v.words))))
    (Err unmade.Dark)

-- WHAT IS KEPT
-- word k has equal cells, or is the one in doubt and under way
abbrev pub SoundAt : Option Doubt → List ℕ → ℕ → Type 0
SoundAt None words k = Equal (triple_at words k)
SoundAt (Some d) words k = (k ≡ d.place → Underway d.old d.new (triple_at words k)) × (k ≢ d.place → Equal (triple_at words k))

-- What making sees to and every call keeps.
pub record ThreeLawful (below : Value) (lit : Bool) (doubt : Option Doubt) : Type 0 where
  pub cheap : below.kind.price ≤ 3
  pub low : below.kind.dues ≤ 2
  pub sure : SureWhen lit doubt
  pub lit_below : lit ≡ true → below.lit ≡ true
  pub doubt_inside : DoubtBelow (thirds below.words) doubt
  -- what is in doubt below is a cell of the word in doubt
  pub cell_inside : (e : Doubt) → below.doubt ≡ Some e → (d : Doubt) × (doubt ≡ Some d) × (e.place / 3 ≡ d.place)
  -- however the memory below is found, every word is sound
  pub sound : (found : List ℕ) → MayHold below found → (k : ℕ) → k < thirds below.words → SoundAt doubt found k

-- What a write comes to above, by the memory below after its stores: word p is stored, or in doubt.
abbrev pub StoredAbove : Value → ℕ → ℕ → Result (Unit {0}) Raised → Value → Type 0
StoredAbove below p w (Ok u) after =
    ThreeLawful after true None × Wrote (three_value below true None) p w (Ok u) (three_value after true None)
StoredAbove below p w (Err e) after =
    ThreeLawful after false (Some (record { place = p; old = slice_index (words_of below.words) p; new = w }))
    × Wrote (three_value below true None) p w (Err e.0) (three_value after false (Some (record { place = p; old = slice_index (words_of below.words) p; new = w })))

-- What a relight comes to above: nothing is in doubt any more, or what was.
abbrev pub RelitAbove : Value → Bool → Option Doubt → ℕ → Result (Unit {0}) Raised → Value → Type 0
RelitAbove below lit doubt charge (Ok u) after =
    ThreeLawful after true None × Relights (three_value below lit doubt) charge (Ok u) (three_value after true None)
RelitAbove below lit doubt charge (Err e) after =
    ThreeLawful after false doubt × Relights (three_value below lit doubt) charge (Err e.0) (three_value after false doubt)

-- What looking at all cells comes to above: a lit memory, or a dark one with a word in doubt.
abbrev pub MadeAbove : Value → Result (Option Doubt) Unmade → Type 0
MadeAbove below (Ok None) = ThreeLawful below true None
MadeAbove below (Ok (Some d)) = ThreeLawful below false (Some d)
MadeAbove below (Err e) = Unit {0}
