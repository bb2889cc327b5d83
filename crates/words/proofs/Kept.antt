-- The items that count, when one is put or added.
use Rattle.std.proofs.Common.{◌≡◌, ℕ, ◌<◌, ◌≤◌, cond, List, [], ◌∷◌, ◌++◌, length, take, set, sym, ap, ◌∙◌, inl, inr, arith, length-take, length-take-le}
use Rattle.std.proofs.Math.Seq.{take-set-lt}
use Rattle.std.proofs.lemmas.Bool.{cases_lt, lt-ltb}
use Rattle.std.proofs.lemmas.List.{take-set-le, set_past}
use Rattle.words.specs.declared.list.Short.{Short}
use Rattle.words.specs.Lists.{items, pushed}

pub length-items : {A : Type 0} {N : ℕ} (s : Short A N) → length (items s) ≡ s.count
length-items s = let h = s.within in let e = s.full in length-take-le s.count s.items (omega arith)

pub items_few : {A : Type 0} {N : ℕ} (s : Short A N) → length (items s) ≤ N
items_few s = let h = s.within in let e = length-items s in omega arith

-- an item that is put and then perhaps cut off
pub take_set : {A : Type 0} (n : ℕ) (xs : List A) (i : ℕ) (x : A) → take n (set xs i x) ≡ set (take n xs) i x
take_set n xs i x =
    elim (cases_lt i n) [
      | inl h ↦ take-set-lt n xs i x h
      | inr h ↦ take-set-le n xs i x h ∙ sym (set_past (take n xs) i x (omega (arith, length-take n xs)))
    ]

pub pushed_room : {A : Type 0} (N : ℕ) (xs : List A) (x : A) → length xs < N → pushed N xs x ≡ xs ++ x ∷ []
pushed_room N xs x h = ap (λ b. cond b (xs ++ x ∷ []) xs) (lt-ltb (length xs) N h)
