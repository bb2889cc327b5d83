-- What is in the set of a test, and that sets with the same members are one. Proved here, since the laws of a kind of facts are among
-- its contracts.
use mathlib.Core.HLevel.{is_prop→PathP}
use native.Mathlib.Bridge.{le_prop}
use Rattle.std.proofs.Common.{◌≡◌, ℕ, ◌<◌, ◌^◌, Bool, true, false, cond, not, ◌&&◌, ◌||◌, eqb, map, get_or, sym, refl, ap, ◌∙◌, inl, inr, arith}
use Rattle.std.proofs.lemmas.Bool.{cases_Bool, eqb-true, eqb-false}
use Rattle.std.specs.Int.{bit_at}
use Rattle.std.proofs.lemmas.List.FromFn.{get_or-map-range_with_len}
use Rattle.std.proofs.lemmas.Simd.{bit_mask_l}
use Rattle.std.proofs.lemmas.Nat.Bits.{same_from_bits_below, bit_at-lt}
use Rattle.facts.specs.declared.set.VariableSet.{VariableSet}
use Rattle.facts.specs.Sets.{variables, has, set_of, union, intersection, difference}

-- sets of the same bits are one
pub same_bits : (a b : VariableSet) → a.bits ≡ b.bits → a ≡ b
same_bits a b e = λ i. record { bits = e i; known = is_prop→PathP (λ j. e j < 2 ^ 48) (λ j. le_prop) a.known b.known i }

bit_from : (b : Bool) → eqb (cond b 1 0) 1 ≡ b
bit_from true = refl
bit_from false = refl

-- the members of the set of a test
pub has_of : (test : ℕ → Bool) (v : ℕ) → v < 48 → has (set_of test) v ≡ test v
has_of test v l = ap (λ x. eqb x 1) (bit_mask_l (map test variables) v) ∙ bit_from (get_or (map test variables) v false) ∙ get_or-map-range_with_len test 0 48 v v false l (omega arith)

module _ (a b : VariableSet) (v : ℕ) (l : v < 48) where
  pub has_union : has (union a b) v ≡ (has a v || has b v)
  unfolding union
  has_union = has_of (λ v. has a v || has b v) v l

  pub has_intersection : has (intersection a b) v ≡ (has a v && has b v)
  unfolding intersection
  has_intersection = has_of (λ v. has a v && has b v) v l

  pub has_difference : has (difference a b) v ≡ (has a v && not (has b v))
  unfolding difference
  has_difference = has_of (λ v. has a v && not (has b v)) v l

bits_agree : (x y : ℕ) → x < 2 → y < 2 → eqb x 1 ≡ eqb y 1 → x ≡ y
bits_agree x y p q e =
    elim (cases_Bool (eqb y 1)) [
      | inl t ↦ eqb-true x 1 (e ∙ t) ∙ sym (eqb-true y 1 t)
      | inr f ↦
          let m : (x ≡ 1 → ⊥) = eqb-false x 1 (e ∙ f) in
          let n : (y ≡ 1 → ⊥) = eqb-false y 1 f in
          omega arith
    ]

-- sets with the same members are one
pub same_members : (a b : VariableSet) → ((v : ℕ) → v < 48 → has a v ≡ has b v) → a ≡ b
same_members a b h =
    same_bits a b (same_from_bits_below 48 a.bits b.bits a.known b.known
    (λ i l. bits_agree (bit_at a.bits i) (bit_at b.bits i) (bit_at-lt a.bits i) (bit_at-lt b.bits i) (h i l)))
