-- The words of a record, read one after the other.
use Rattle.std.proofs.Common.{◌≡◌, ℕ, zero, suc, ◌+◌, ◌<◌, ◌≤◌, List, [], ◌∷◌, ◌++◌, length, get_or, set, take, drop, min, replicate, sym, refl, ap, ◌∙◌, arith, length-drop}
use Rattle.std.proofs.Math.Nat.{suc-min-suc}
use Rattle.std.proofs.lemmas.List.{take-replicate, get_or-drop}
use Rattle.plain.specs.Plain.{eight}
use Rattle.layout.specs.Places.{record_place}
use Rattle.cabinet.specs.Recordings.{record_of}

-- n words, of which the first k are those of xs
filled_more : (xs : List ℕ) (k n m : ℕ) → k < length xs → k < n → n ≤ m → set (take n (take k xs ++ replicate m 0)) k (get_or xs k 0) ≡ take n (take (suc k) xs ++ replicate m 0)
filled_more [] k n m h l f = absurd (omega arith)
filled_more (x ∷ xs) k zero m h l f = absurd (omega arith)
filled_more (x ∷ xs) k (suc n) zero h l f = absurd (omega arith)
filled_more (x ∷ xs) zero (suc n) (suc m) h l f = ap (λ ys. x ∷ ys) (take-replicate n m 0 (omega arith) ∙ sym (take-replicate n (suc m) 0 (omega arith)))
filled_more (x ∷ xs) (suc k) (suc n) (suc m) h l f =
    ap (λ ys. x ∷ ys) (filled_more xs k n (suc m) (omega arith) (omega arith) (omega arith))

take_least : (xs zs : List ℕ) (n m : ℕ) → take m (take (min n m) xs ++ zs) ≡ take m (take n xs ++ zs)
take_least xs zs n zero = refl
take_least xs zs zero (suc m) = rw (let e : min 0 (suc m) ≡ 0 = omega arith in e) refl
take_least [] zs (suc n) (suc m) = rw suc-min-suc refl
take_least (x ∷ xs) zs (suc n) (suc m) = rw suc-min-suc (ap (λ ys. x ∷ ys) (take_least xs zs n m))

-- the eight words, of which as many are read as there are in the record, and at most the first k
unfoldable pub read_so_far : ℕ → ℕ → List ℕ → List ℕ
read_so_far size k ws = eight (take (min k size) (drop record_place ws))

pub none_read : (size : ℕ) (ws : List ℕ) → read_so_far size 0 ws ≡ replicate 8 0
unfolding read_so_far
none_read size ws = rw (let e : min 0 size ≡ 0 = omega arith in e) refl

pub one_more_read : (size k : ℕ) (ws : List ℕ) → k < 8 → k < size → record_place + k < length ws → read_so_far size (k + 1) ws ≡ set (read_so_far size k ws) k (get_or ws (record_place + k) 0)
unfolding read_so_far
one_more_read size k ws h s l =
    let e : min (k + 1) size ≡ suc k = omega arith in
    let f : min k size ≡ k = omega arith in
    let rest = drop record_place ws in
    ap (λ n. eight (take n rest)) e
    ∙ sym (filled_more rest k 8 8 (omega (arith, length-drop record_place ws)) h (omega arith))
    ∙ ap (λ x. set (eight (take k rest)) k x) (get_or-drop record_place ws k 0)
    ∙ ap (λ n. set (eight (take n rest)) k (get_or ws (record_place + k) 0)) (sym f)

pub all_read : (size k : ℕ) (ws : List ℕ) → min size 8 ≤ k → read_so_far size k ws ≡ record_of size ws
unfolding read_so_far record_of
all_read size k ws h =
    let rest = drop record_place ws in
    let e : min (min k size) 8 ≡ min size 8 = omega arith in
    sym (take_least rest (replicate 8 0) (min k size) 8) ∙ ap (λ n. eight (take n rest)) e ∙ take_least rest (replicate 8 0) size 8
