-- The names of logged variables.
use Rattle.std.proofs.Common.{◌≡◌, ℕ, ◌+◌, ◌<◌, ◌≤◌, Bool, true, false, cond, eqb, List, [], ◌∷◌, ◌++◌, length, take, get_or, refl, ap, sym, ◌∙◌, arith, append_assoc, append-nil, add-zero}
use Rattle.std.proofs.lemmas.List.{take_more, map-append, length-map}
use Rattle.std.proofs.lemmas.Nat.Bits.{bit_at_above}
use Rattle.std.proofs.Common.{length-take-le}
use Rattle.std.specs.Borrow.{Bor}
use Rattle.std.proofs.Output.{has_written_append, has_written_of_eq}
use Rattle.std.specs.Fmt.{HasWritten}
use Rattle.std.specs.declared.fmt.Formatter.{Formatter}
use Rattle.facts.specs.declared.set.VariableSet.{VariableSet}
use Rattle.facts.specs.Sets.{has}
use Rattle.grammar.specs.Names.{bytes_of}
use Rattle.fit.specs.Printed.{names_in, shown}

-- no variable has a number from 48 on
pub none_above : (set : VariableSet) (v : ℕ) → 48 ≤ v → has set v ≡ false
none_above set v high = ap (λ b. eqb b 1) (bit_at_above set.bits 48 v set.known high)

alone : (told : Bool) (text : List ℕ) → elim told [ true ↦ text ++ [] | false ↦ [] ] ≡ cond told text []
alone true text = append-nil text
alone false text = refl

first_of_more : (told : Bool) (text all before last : List ℕ) → all ≡ before ++ last → elim told [ true ↦ text ++ all | false ↦ all ] ≡ elim told [ true ↦ text ++ before | false ↦ before ] ++ last
first_of_more true text all before last e = ap (λ l. text ++ l) e ∙ sym (append_assoc text before last)
first_of_more false text all before last e = e

names_in_push : (test : ℕ → Bool) (v w : ℕ) (names : List (List ℕ)) (name : List ℕ) → v + length names ≡ w → names_in test v (names ++ name ∷ []) ≡ names_in test v names ++ cond (test w) (32 ∷ shown name) []
unfolding names_in
names_in_push test v w [] name e = alone (test v) (32 ∷ shown name) ∙ ap (λ n. cond (test n) (32 ∷ shown name) []) (sym (add-zero v) ∙ e)
names_in_push test v w (n ∷ names) name e =
    first_of_more (test v) (32 ∷ shown n) _ (names_in test (v + 1) names) (cond (test w) (32 ∷ shown name) []) (names_in_push test (v + 1) w names name (omega arith))

-- the name of one variable more, if it passes
names_in_more : (test : ℕ → Bool) (names : List (Bor (List ℕ))) (i : ℕ) (d : Bor (List ℕ)) (passes : Bool) → i < length names → passes ≡ test i
    → names_in test 0 (bytes_of (take i names)) ++ cond passes (32 ∷ shown (get_or names i d).now) [] ≡ names_in test 0 (bytes_of (take (i + 1) names))
names_in_more test names i d passes within is =
    let split : names_in test 0 (bytes_of (take (i + 1) names)) ≡ names_in test 0 (bytes_of (take i names) ++ (get_or names i d).now ∷ []) =
    ap (λ l. names_in test 0 (bytes_of l)) (take_more names i d within) ∙ ap (names_in test 0) (map-append (λ n. n.now) (take i names) (get_or names i d ∷ [])) in
    ap (λ t. names_in test 0 (bytes_of (take i names)) ++ cond t (32 ∷ shown (get_or names i d).now) []) is
    ∙ sym (split ∙ names_in_push test 0 i (bytes_of (take i names)) (get_or names i d).now (omega (arith, length-map (take i names) (λ n. n.now), length-take-le i names (omega arith))))

pub name_written : {W : Type 0} (took : W → List ℕ → W → Type 0) (f g h : Formatter W) (test : ℕ → Bool) (names : List (Bor (List ℕ))) (i : ℕ) (d : Bor (List ℕ)) (passes : Bool) → i < length names → passes ≡ test i
    → HasWritten took f (names_in test 0 (bytes_of (take i names))) g → HasWritten took g (cond passes (32 ∷ shown (get_or names i d).now) []) h → HasWritten took f (names_in test 0 (bytes_of (take (i + 1) names))) h
name_written took f g h test names i d passes within is before more = has_written_of_eq took _ _ _ _ (names_in_more test names i d passes within is) (has_written_append took _ _ _ _ _ before more)
