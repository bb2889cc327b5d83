-- Proofs that are members of an interface: what a cut leaves is allowed, and a lowest memory keeps the limits.
use Rattle.std.specs.Prelude.{◌≡◌, ℕ, ◌%◌, ◌^◌, ◌<◌, Bool, true, false, cond, ◌⊎◌, List, length, Some, None, Option, ◌==◌, refl}
use Rattle.std.proofs.Common.{inl, inr, arith}
use Rattle.memory.specs.declared.doubt.Doubt.{Doubt}
use Rattle.memory.specs.Value.{Allowed, DoubtBelow, Limits, length_settled}
use Rattle.lowest.specs.Lowest.{LowestLawful, Stands, left_in_image, left_in_words, lowest_kind, lowest_value}

new_or_old : (b : Bool) (old new : ℕ) → (cond b new old ≡ old) ⊎ (cond b new old ≡ new)
new_or_old true old new = inr refl
new_or_old false old new = inl refl

pub left_in_words_allowed : (scrap old new : ℕ) → scrap < 2 ^ 16 → Allowed true old new (left_in_words scrap old new)
left_in_words_allowed scrap old new fits = new_or_old (scrap % 2 == 1) old new

pub left_in_image_allowed : (scrap old new : ℕ) → scrap < 2 ^ 16 → Allowed false old new (left_in_image scrap old new)
left_in_image_allowed scrap old new fits = fits

inside : (leaves : ℕ → ℕ → ℕ → ℕ) (held : List ℕ) (scrap : ℕ) (doubt : Option Doubt) → Stands leaves held scrap doubt → DoubtBelow (length held) doubt
inside leaves held scrap None s d e = cc
inside leaves held scrap (Some x) s d e = let p : x.place ≡ d.place = cc in let q = s.0 in omega arith

pub lowest_limits : (leaves : ℕ → ℕ → ℕ → ℕ) (whole : Bool) (buffer : ℕ) (held : List ℕ) (even : Bool) (charge : ℕ) (lit : Bool) (scrap : ℕ) (doubt : Option Doubt) → LowestLawful leaves held even charge lit scrap doubt → Limits (lowest_value (lowest_kind whole buffer) held charge lit doubt)
lowest_limits leaves whole buffer held even charge lit scrap doubt l =
    let n = length_settled doubt held in
    record {
      short = omega (arith, l.short);
      charge_high = l.charge_high;
      price_low = omega arith;
      price_high = omega arith;
      dues_high = omega arith;
      layers_few = omega arith;
      sure_when_lit = l.sure;
      doubt_inside = λ d e. let s = inside leaves held scrap doubt l.stands d e in omega arith;
      places = record { inside = λ charge p h. omega (arith, l.short); own = λ e charge p. refl };
    }
