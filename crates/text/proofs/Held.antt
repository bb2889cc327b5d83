-- What a line of the code holds, when a token more comes.
use Rattle.std.proofs.Common.{◌≡◌, ℕ, ◌+◌, ◌<◌, ◌≤◌, List, [], ◌∷◌, ◌++◌, map, length, take, set, ap, sym, ◌∙◌, arith, length-append}
use Rattle.std.proofs.lemmas.List.{take_more_set, take_all, map-append, take-append-le, length-take-le, length-map}
use Rattle.text.specs.declared.lex.Tokens.{Tokens}
use Rattle.text.specs.Seen.{held}

-- with room for it
pub held_more : {A B : Type 0} (f : A → B) (xs : List A) (n : ℕ) (x : A) → length xs ≡ 7 → n < 7 → map f (take (n + 1) (set xs n x)) ≡ take 7 (map f (take n xs) ++ f x ∷ [])
held_more f xs n x full room =
    let whole = map-append f (take n xs) (x ∷ []) in
    let size : length (map f (take n xs) ++ f x ∷ []) ≤ 7 = simp (length-append, length-map) (omega (arith, length-take-le n xs (omega arith))) in
    ap (map f) (take_more_set xs n x (omega arith)) ∙ whole ∙ sym (take_all 7 _ size)

-- with none
pub held_full : {A B : Type 0} (f : A → B) (xs : List A) (n : ℕ) (x : A) → length xs ≡ 7 → n ≤ 7 → 7 ≤ n → map f (take n xs) ≡ take 7 (map f (take n xs) ++ f x ∷ [])
held_full f xs n x full few many =
    let size : length (map f (take n xs)) ≡ 7 = simp length-map (omega (arith, length-take-le n xs (omega arith))) in
    sym (take_all 7 _ (omega arith)) ∙ sym (take-append-le 7 (map f (take n xs)) (f x ∷ []) (omega arith))

pub held_few : (tokens : Tokens) → length (held tokens) ≤ 7
held_few tokens = let full = tokens.full in let few = tokens.few in simp length-map (omega (arith, length-take-le tokens.count tokens.tokens (omega arith)))
