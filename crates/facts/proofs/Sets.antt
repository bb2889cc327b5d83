-- Sets of variables by their members.
use Rattle.std.proofs.Common.{◌≡◌, ℕ, zero, suc, ◌-◌, ◌*◌, ◌%◌, ◌<◌, ◌^◌, Bool, not, ◌&&◌, ◌||◌, eqb, min, max, sym, refl, ap, ◌∙◌, inl, inr, arith, w64, bit_and, bit_or, count_ones}
use Rattle.std.specs.List.{count_by}
use Rattle.std.proofs.lemmas.Bool.{cases_eq, eq-eqb, ne_eqb}
use Rattle.std.specs.Int.{bit_at, bit_not}
use Rattle.std.proofs.lemmas.Simd.{ones-mask_l}
use Rattle.std.proofs.lemmas.Nat.{or_lt, one_shl}
use Rattle.std.proofs.lemmas.Nat.Bits.{bit_at-lt, bit_at_and, bit_at_or, bit_at_not, bit_at-pow_same, bit_at-pow_other, and_pow}
use Rattle.std.proofs.Math.Pow.{pow-lt, pow_pos}
use Rattle.program.specs.declared.statement.Index.{Index}
use Rattle.facts.specs.declared.set.VariableSet.{VariableSet}
use Rattle.facts.specs.Sets.{variables, has, set_of, of_bits, single, union, intersection, difference, size}
pub use Rattle.facts.specs.Membership.{same_bits, has_of, same_members}

pub same_sets : (f g : ℕ → Bool) → ((v : ℕ) → v < 48 → f v ≡ g v) → set_of f ≡ set_of g
same_sets f g h = same_members (set_of f) (set_of g) (λ v l. has_of f v l ∙ h v l ∙ sym (has_of g v l))

set_of_members : (a : VariableSet) → set_of (has a) ≡ a
set_of_members a = same_members (set_of (has a)) a (has_of (has a))

-- the set of a number's 1 bits has that number
pub of_bits_bits : (n : ℕ) → n < 2 ^ 48 → (of_bits n).bits ≡ n
unfolding of_bits
of_bits_bits n l = ap (λ a. a.bits) (set_of_members (record { bits = n; known = l }))

-- two tests of bits agree if they do at 0 and 1
on_bits : (f g : ℕ → ℕ → Bool) → f 0 0 ≡ g 0 0 → f 0 1 ≡ g 0 1 → f 1 0 ≡ g 1 0 → f 1 1 ≡ g 1 1 → (x y : ℕ) → x < 2 → y < 2 → f x y ≡ g x y
on_bits f g p q r s zero zero k l = p
on_bits f g p q r s zero (suc zero) k l = q
on_bits f g p q r s (suc zero) zero k l = r
on_bits f g p q r s (suc zero) (suc zero) k l = s
on_bits f g p q r s x (suc (suc y)) k l = absurd (omega arith)
on_bits f g p q r s (suc (suc x)) y k l = absurd (omega arith)

bit_or_either : (a b v : ℕ) → eqb (bit_at (bit_or a b) v) 1 ≡ (eqb (bit_at a v) 1 || eqb (bit_at b v) 1)
bit_or_either a b v =
    ap (λ x. eqb x 1) (bit_at_or a b v)
    ∙ on_bits (λ x y. eqb (max x y) 1) (λ x y. eqb x 1 || eqb y 1) refl refl refl refl (bit_at a v) (bit_at b v) (bit_at-lt a v) (bit_at-lt b v)

bit_and_both : (a b v : ℕ) → eqb (bit_at (bit_and a b) v) 1 ≡ (eqb (bit_at a v) 1 && eqb (bit_at b v) 1)
bit_and_both a b v =
    ap (λ x. eqb x 1) (bit_at_and a b v)
    ∙ on_bits (λ x y. eqb (min x y) 1) (λ x y. eqb x 1 && eqb y 1) refl refl refl refl (bit_at a v) (bit_at b v) (bit_at-lt a v) (bit_at-lt b v)

bit_and_not : (a b v : ℕ) → b < 2 ^ 64 → v < 64 → eqb (bit_at (bit_and a (bit_not w64 b)) v) 1 ≡ (eqb (bit_at a v) 1 && not (eqb (bit_at b v) 1))
bit_and_not a b v fits l =
    ap (λ x. eqb x 1) (bit_at_and a (bit_not w64 b) v ∙ ap (min (bit_at a v)) (bit_at_not w64 b v fits l))
    ∙ on_bits (λ x y. eqb (min x (1 - y)) 1) (λ x y. eqb x 1 && not (eqb y 1)) refl refl refl refl (bit_at a v) (bit_at b v) (bit_at-lt a v) (bit_at-lt b v)

bit_shifted : (k v : ℕ) → k < 64 → eqb (bit_at (1 * 2 ^ k % 2 ^ 64) v) 1 ≡ eqb v k
bit_shifted k v l =
    ap (λ x. eqb (bit_at x v) 1) (one_shl k 64 l)
    ∙ elim (cases_eq v k) [
      | inl same ↦ ap (λ n. eqb (bit_at (2 ^ k) n) 1) same ∙ ap (λ x. eqb x 1) (bit_at-pow_same k) ∙ sym (eq-eqb v k same)
      | inr other ↦ ap (λ x. eqb x 1) (bit_at-pow_other k v other) ∙ sym (ne_eqb v k other)
    ]

-- what the bits of the sets made come to
pub of_bits_or : (a b : VariableSet) → of_bits (bit_or a.bits b.bits) ≡ union a b
unfolding of_bits union
of_bits_or a b = same_sets _ _ (λ v l. bit_or_either a.bits b.bits v)

pub of_bits_and : (a b : VariableSet) → of_bits (bit_and a.bits b.bits) ≡ intersection a b
unfolding of_bits intersection
of_bits_and a b = same_sets _ _ (λ v l. bit_and_both a.bits b.bits v)

pub of_bits_and_not : (a b : VariableSet) → of_bits (bit_and a.bits (bit_not w64 b.bits)) ≡ difference a b
unfolding of_bits difference
of_bits_and_not a b = same_sets _ _ (λ v l. bit_and_not a.bits b.bits v (omega (arith, b.known)) (omega arith))

pub of_bits_shifted : (k : Index 48) → of_bits (1 * 2 ^ k.number % 2 ^ 64) ≡ single k.number
unfolding of_bits single
of_bits_shifted k = same_sets _ _ (λ v m. bit_shifted k.number v (omega (arith, k.known)))

-- those bits are of variables
pub or_known : (a b : VariableSet) → bit_or a.bits b.bits < 2 ^ 48
or_known a b = or_lt 48 a.bits b.bits a.known b.known

pub shifted_known : (k : ℕ) → k < 48 → 1 * 2 ^ k % 2 ^ 64 < 2 ^ 48
shifted_known k l = omega (arith, one_shl k 64 (omega arith), pow-lt l)

scaled_bit : (x m : ℕ) → x < 2 → 0 < m → not (eqb (x * m) 0) ≡ eqb x 1
scaled_bit zero m k l = let none : 0 * m ≡ 0 = omega arith in ap (λ n. not (eqb n 0)) none
scaled_bit (suc zero) m k l = ap not (ne_eqb (1 * m) 0 (λ e. omega arith))
scaled_bit (suc (suc x)) m k l = absurd (omega arith)

pub tested : (a k : ℕ) → k < 64 → not (eqb (bit_and a (1 * 2 ^ k % 2 ^ 64)) 0) ≡ eqb (bit_at a k) 1
tested a k l =
    ap (λ m. not (eqb (bit_and a m) 0)) (one_shl k 64 l)
    ∙ ap (λ x. not (eqb x 0)) (and_pow a k)
    ∙ scaled_bit (bit_at a k) (2 ^ k) (bit_at-lt a k) (pow_pos k)

pub counted : (a : VariableSet) → count_ones a.bits ≡ count_by (has a) variables
counted a = ap (λ s. count_ones s.bits) (sym (set_of_members a)) ∙ ones-mask_l (has a) variables

pub size_of : (test : ℕ → Bool) → size (set_of test) ≡ count_by test variables
size_of test = sym (counted (set_of test)) ∙ ones-mask_l test variables
