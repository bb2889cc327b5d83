-- A lowest memory as a value, by what its buffer means.
use Rattle.std.specs.Prelude.{◌≡◌, ℕ, ◌<◌, ◌≤◌, true, false, List, length, None, Ok, Err, Result}
use Rattle.memory.specs.declared.fault.Fault.{Fault}
use Rattle.memory.specs.declared.fault.Fault.TheVariants.{Cut, Dark, Outside}
use Rattle.memory.specs.declared.fault.Unfit.{Unfit}
use Rattle.memory.specs.declared.fault.Unmade.TheVariants.{Size}
use Rattle.memory.specs.Light.{doubt_of, is_lit}
use Rattle.memory.specs.Value.{Limits, Relights, Value, Wrote}
use Rattle.lowest.specs.declared.backing.Backing.{Ghosts}
use Rattle.lowest.specs.declared.memories.Lowest.{Lowest}
use Rattle.lowest.specs.Lowest.{LowestLawful, held_after, lowest_kind, lowest_value, makeable}
use Rattle.lowest.specs.Members.{lowest_limits}

module _ {B : Type 0} (buffer : Ghosts B) where
  -- the words that its buffer holds
  abbrev pub held_by : Lowest B → List ℕ
  held_by m = buffer.held m.backing

  abbrev pub seen_by : Lowest B → Value
  seen_by m = lowest_value (lowest_kind buffer.whole (buffer.buffer m.backing)) (held_by m) m.charge (is_lit m.light) (doubt_of m.light)

  abbrev pub lawful_by : Lowest B → Type 0
  lawful_by m = LowestLawful buffer.leaves (held_by m) (buffer.even m.backing) m.charge (is_lit m.light) m.scrap (doubt_of m.light)

  abbrev pub limits_by : (m : Lowest B) → lawful_by m → Limits (seen_by m)
  limits_by m l = lowest_limits buffer.leaves buffer.whole (buffer.buffer m.backing) (held_by m) (buffer.even m.backing) m.charge (is_lit m.light) m.scrap (doubt_of m.light) l

  -- a memory over what the buffer holds: lit, nothing in doubt
  abbrev pub lit_over : B → ℕ → Value
  lit_over backing charge = lowest_value (lowest_kind buffer.whole (buffer.buffer backing)) (buffer.held backing) charge true None

  -- what is made of a buffer, with a charge and a scrap
  pub record Made (given : B) (power last : ℕ) (m : Lowest B) : Type 0 where
    pub can : makeable (buffer.held given) (buffer.even given) ≡ true
    pub lawful : lawful_by m
    pub seen : seen_by m ≡ lit_over given power
    pub backing : m.backing ≡ given
    pub scrap : m.scrap ≡ last

  -- why nothing is made of it; it is handed back
  pub record Refused (given : B) (e : Unfit B) : Type 0 where
    pub cannot : makeable (buffer.held given) (buffer.even given) ≡ false
    pub why : e.why ≡ Size
    pub back : e.given ≡ given

  abbrev pub Makes : B → ℕ → ℕ → Result (Lowest B) (Unfit B) → Type 0
  Makes given power last (Ok m) = Made given power last m
  Makes given power last (Err e) = Refused given e

  -- a place that can be read and written, or the refusal
  abbrev pub Reaches : Lowest B → ℕ → Result ℕ Fault → Type 0
  Reaches m p (Ok at) = (is_lit m.light ≡ true) × (p < length (held_by m)) × (at ≡ p)
  Reaches m p (Err Dark) = is_lit m.light ≡ false
  Reaches m p (Err Outside) = (is_lit m.light ≡ true) × (length (held_by m) ≤ p)
  Reaches m p (Err (Cut c)) = ⊥

  -- what every memory promises of a write, and of a relight
  abbrev pub Writes : Lowest B → ℕ → ℕ → Result (Unit {0}) Fault → Lowest B → Type 0
  Writes m p w r after = lawful_by m → lawful_by after × Wrote (seen_by m) p w r (seen_by after)

  abbrev pub RelightsBy : Lowest B → ℕ → Result (Unit {0}) Fault → Lowest B → Type 0
  RelightsBy m power r after = lawful_by m → lawful_by after × Relights (seen_by m) power r (seen_by after)

  -- what a write leaves in its buffer, cut or not; as much is over as before
  pub record Leaves (m : Lowest B) (p w : ℕ) (after : Lowest B) : Type 0 where
    pub held : held_by after ≡ held_after buffer.leaves (held_by m) (is_lit m.light) m.charge m.scrap p w
    pub even : buffer.even after.backing ≡ buffer.even m.backing

  -- a relight is always done, with exactly the given charge, and does not alter the buffer
  pub record Done (m : Lowest B) (power : ℕ) (r : Result (Unit {0}) Fault) (after : Lowest B) : Type 0 where
    pub answer : r ≡ Ok tt
    pub backing : after.backing ≡ m.backing
    pub seen : seen_by after ≡ lit_over m.backing power
