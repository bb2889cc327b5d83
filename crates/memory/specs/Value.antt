-- A memory as a value: what its calls answer and leave, and what it may be found to hold.
use Rattle.std.specs.Prelude.{◌≡◌, ℕ, ◌+◌, ◌-◌, ◌^◌, ◌<◌, ◌≤◌, Bool, true, false, cond, ◌⊎◌, List, length, is_some, Some, None, Ok, Err, Option, Result, nat_lt, slice_index, slice_set, refl}
use Rattle.std.proofs.Common.{length-set}
use Rattle.memory.specs.declared.doubt.Doubt.{Doubt}
use Rattle.memory.specs.declared.fault.Cut.{Cut}
use Rattle.memory.specs.declared.fault.Fault.{Fault}
use Rattle.memory.specs.declared.fault.Fault.TheVariants as fault
use Rattle.memory.specs.Light.{answer_at, left_at}

-- What never alters, besides the count of words.
pub record Kind : Type 0 where
  -- the charge that a store takes, and the most that a relight takes
  pub price : ℕ
  pub dues : ℕ
  -- a store that is cut leaves the old word or the new one; if torn, any word
  pub whole : Bool
  -- how many memories lie below, down to the lowest
  pub layers : ℕ
  -- the place of the lowest memory at which a store is cut, by the charge that was left and the place that was to be written
  pub lowest : ℕ → ℕ → ℕ
  -- the ghost name of the buffer in which the lowest memory lies
  pub buffer : ℕ

-- While a word is in doubt, `words` has the old one at its place.
pub record Value : Type 0 where
  pub words : List ℕ
  pub charge : ℕ
  pub lit : Bool
  pub doubt : Option Doubt
  pub kind : Kind

-- the words that are held, with the old one put back at the place in doubt
abbrev pub settled : Option Doubt → List ℕ → List ℕ
settled None held = held
settled (Some d) held = slice_set held d.place d.old

pub length_settled : (doubt : Option Doubt) (held : List ℕ) → length (settled doubt held) ≡ length held
length_settled None held = refl
length_settled (Some d) held = length-set held d.place d.old

-- only a dark memory has a place in doubt
abbrev pub SureWhen : Bool → Option Doubt → Type 0
SureWhen lit doubt = lit ≡ true → is_some doubt ≡ false

-- what is in doubt is one of so many places
abbrev pub DoubtBelow : ℕ → Option Doubt → Type 0
DoubtBelow n doubt = (d : Doubt) → doubt ≡ Some d → d.place < n

-- A store to one of n places is cut at a place of the lowest memory, so that 65,535 is never told of it; with no memory below, at that place itself.
pub record TellsPlaces (k : Kind) (n : ℕ) : Type 0 where
  pub inside : (charge p : ℕ) → p < n → k.lowest charge p < 32768
  pub own : k.layers ≡ 0 → (charge p : ℕ) → k.lowest charge p ≡ p

-- The limits of every memory.
pub record Limits (v : Value) : Type 0 where
  pub short : length v.words ≤ 32768
  pub charge_high : v.charge ≤ 4294967295
  pub price_low : 1 ≤ v.kind.price
  pub price_high : v.kind.price ≤ 9
  pub dues_high : v.kind.dues ≤ 8
  -- one layer more can be counted in a byte; a layer of three cells raises the price by two at least, so that it keeps this too
  pub layers_few : v.kind.layers ≤ 245 + v.kind.price
  pub sure_when_lit : SureWhen v.lit v.doubt
  pub doubt_inside : DoubtBelow (length v.words) v.doubt
  pub places : TellsPlaces v.kind (length v.words)

-- READ: the word at the place; 3 if dark, 4 if the place is not below the length.
abbrev pub read_of : Value → ℕ → Result ℕ Fault
read_of v p = answer_at v.lit p (length v.words) (Ok (slice_index v.words p))

-- what a cut carries
abbrev pub cut_at : Kind → ℕ → ℕ → Cut
cut_at k charge p = record { place = k.lowest charge p; layers = k.layers }

-- the word stored and the price taken
abbrev pub stored : Value → ℕ → ℕ → Value
stored v p w = record { words = slice_set v.words p w; charge = v.charge - v.kind.price; lit = true; doubt = None; kind = v.kind }

-- cut: dark, no charge, and the place in doubt between the word that stood and the word given
abbrev pub cut_short : Value → ℕ → ℕ → Value
cut_short v p w = record { words = v.words; charge = 0; lit = false; doubt = Some (record { place = p; old = slice_index v.words p; new = w }); kind = v.kind }

-- WRITE: what it answers, and the memory after it.
abbrev pub write_answer : Value → ℕ → Result (Unit {0}) Fault
write_answer v p = answer_at v.lit p (length v.words) (cond (nat_lt v.charge v.kind.price) (Err (fault.Cut (cut_at v.kind v.charge p))) (Ok tt))

abbrev pub written : Value → ℕ → ℕ → Value
written v p w = left_at v.lit p (length v.words) (cond (nat_lt v.charge v.kind.price) (cut_short v p w) (stored v p w)) v

pub record Wrote (v : Value) (p w : ℕ) (r : Result (Unit {0}) Fault) (after : Value) : Type 0 where
  pub answer : r ≡ write_answer v p
  pub value : after ≡ written v p w

-- What a place in doubt may hold: the old or the new word in a whole memory, any word in a torn one.
abbrev pub Allowed : Bool → ℕ → ℕ → ℕ → Type 0
Allowed true old new w = (w ≡ old) ⊎ (w ≡ new)
Allowed false old new w = w < 2 ^ 16

-- WHAT A MEMORY MAY HOLD: its words, but for the place in doubt.
abbrev pub MayHoldIn : Bool → Option Doubt → List ℕ → List ℕ → Type 0
MayHoldIn whole None words found = found ≡ words
MayHoldIn whole (Some d) words found = (w : ℕ) × Allowed whole d.old d.new w × (found ≡ slice_set words d.place w)

abbrev pub MayHold : Value → List ℕ → Type 0
MayHold v found = MayHoldIn v.kind.whole v.doubt v.words found

-- RELIGHT, done: lit, nothing in doubt, the given charge less at most the dues. Free are the charge taken, and which of the words that it may hold stands.
pub record Relit (v : Value) (charge : ℕ) (after : Value) : Type 0 where
  pub lit : after.lit ≡ true
  pub sure : after.doubt ≡ None
  pub found : MayHold v after.words
  pub kind : after.kind ≡ v.kind
  pub least : charge - v.kind.dues ≤ after.charge
  pub most : after.charge ≤ charge

-- settled on one of the words that it may hold, or as much in doubt as before
abbrev pub NoMoreInDoubt : Value → Value → Type 0
NoMoreInDoubt v after = ((after.doubt ≡ None) × MayHold v after.words) ⊎ ((after.doubt ≡ v.doubt) × (after.words ≡ v.words))

-- what the cut of a relight carries: 65,535 for the lowest memory's own relight, else where a store to the word in doubt was cut
abbrev pub CutInRelight : Value → Cut → Type 0
CutInRelight v cut =
    (cut ≡ record { place = 65535; layers = v.kind.layers })
    ⊎ ((d : Doubt) × (x : ℕ) × (v.doubt ≡ Some d) × (x < v.kind.price) × (cut ≡ cut_at v.kind x d.place))

-- RELIGHT, cut: only below the dues. Dark, no charge. Free is whether it is cut at all, and whether it settled the word in doubt before.
pub record CutAgain (v : Value) (charge : ℕ) (cut : Cut) (after : Value) : Type 0 where
  pub low : charge < v.kind.dues
  pub dark : after.lit ≡ false
  pub spent : after.charge ≡ 0
  pub no_more : NoMoreInDoubt v after
  pub kind : after.kind ≡ v.kind
  pub carries : CutInRelight v cut

abbrev pub Relights : Value → ℕ → Result (Unit {0}) Fault → Value → Type 0
Relights v charge (Ok u) after = Relit v charge after
Relights v charge (Err e) after = (cut : Cut) × (e ≡ fault.Cut cut) × CutAgain v charge cut after
