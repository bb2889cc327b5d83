-- A lowest memory, over the words that its buffer holds.
use Rattle.std.specs.Prelude.{◌≡◌, ℕ, ◌%◌, ◌^◌, ◌<◌, ◌≤◌, Bool, true, cond, ◌&&◌, List, length, Some, None, Option, ◌==◌, nat_le, nat_lt, slice_index, slice_set}
use Rattle.memory.specs.declared.doubt.Doubt.{Doubt}
use Rattle.memory.specs.Light.{left_at}
use Rattle.memory.specs.Value.{Kind, SureWhen, Value, settled}

-- What a cut leaves in plain words, by the last scrap given, the old word and the new: the new one if the scrap is odd.
abbrev pub left_in_words : ℕ → ℕ → ℕ → ℕ
left_in_words scrap old new = cond (scrap % 2 == 1) new old

-- What a cut leaves in an image: the last scrap given.
abbrev pub left_in_image : ℕ → ℕ → ℕ → ℕ
left_in_image scrap old new = scrap

-- price 1, dues 0; a store is cut at its own place, with nothing below
abbrev pub lowest_kind : Bool → ℕ → Kind
lowest_kind whole buffer = record { price = 1; dues = 0; whole = whole; layers = 0; lowest = λ charge place. place; buffer = buffer }

abbrev pub lowest_value : Kind → List ℕ → ℕ → Bool → Option Doubt → Value
lowest_value kind held charge lit doubt = record { words = settled doubt held; charge = charge; lit = lit; doubt = doubt; kind = kind }

-- a memory can be made of at most 32,768 words, and of no part of one
abbrev pub makeable : List ℕ → Bool → Bool
makeable held even = nat_le (length held) 32768 && even

-- what the buffer holds after a write: where power lacks, what a cut leaves; dark, or at no place of it, nothing alters
abbrev pub held_after : (ℕ → ℕ → ℕ → ℕ) → List ℕ → Bool → ℕ → ℕ → ℕ → ℕ → List ℕ
held_after leaves held lit charge scrap p w = left_at lit p (length held) (slice_set held p (cond (nat_lt charge 1) (leaves scrap (slice_index held p) w) w)) held

-- the place in doubt holds what the cut left
abbrev pub Stands : (ℕ → ℕ → ℕ → ℕ) → List ℕ → ℕ → Option Doubt → Type 0
Stands leaves held scrap None = Unit {0}
Stands leaves held scrap (Some d) = (d.place < length held) × (slice_index held d.place ≡ leaves scrap d.old d.new)

-- What making sees to and every call keeps.
pub record LowestLawful (leaves : ℕ → ℕ → ℕ → ℕ) (held : List ℕ) (even : Bool) (charge : ℕ) (lit : Bool) (scrap : ℕ) (doubt : Option Doubt) : Type 0 where
  pub short : length held ≤ 32768
  -- no part of a word is over, so that the words tell the whole buffer
  pub none_over : even ≡ true
  pub charge_high : charge ≤ 4294967295
  pub scrap_high : scrap < 2 ^ 16
  pub sure : SureWhen lit doubt
  pub stands : Stands leaves held scrap doubt
