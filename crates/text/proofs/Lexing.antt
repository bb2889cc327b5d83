-- The tokens of a line, taken a byte at a time.
use Rattle.std.proofs.Common.{◌≡◌, ℕ, zero, suc, ◌+◌, ◌<◌, ◌≤◌, Bool, true, false, not, cond, ◌&&◌, List, [], ◌∷◌, ◌++◌, length, take, drop, get_or, refl, ap, sym, ◌∙◌, append_assoc, append-nil, add_assoc}
use Rattle.std.proofs.lemmas.List.{drop_more, take_all}
use Rattle.std.proofs.Math.ListN.{drop_of_length-le}
use Rattle.text.specs.Bytes.{is_ink}
use Rattle.text.specs.Tokens.{Tok, token_of, front, tokens_from}

-- a list that is cut and then goes on
take_twice : {A : Type 0} (n : ℕ) (xs ys : List A) → take n (take n xs ++ ys) ≡ take n (xs ++ ys)
take_twice zero xs ys = refl
take_twice (suc n) [] ys = refl
take_twice (suc n) (x ∷ xs) ys = ap (λ l. x ∷ l) (take_twice n xs ys)

pub take_pushed : {A : Type 0} (n : ℕ) (xs : List A) (x : A) (ys : List A) → take n (take n (xs ++ x ∷ []) ++ ys) ≡ take n (xs ++ x ∷ ys)
take_pushed n xs x ys = take_twice n (xs ++ x ∷ []) ys ∙ ap (take n) (append_assoc xs (x ∷ []) ys)

-- One byte of a line: a token begins with it wherever ink follows none.
module _ (line at : ℕ) (bs : List ℕ) (i : ℕ) (within : i < length bs) where
  abbrev byte : ℕ
  byte = get_or bs i 0

  abbrev begun : Tok
  begun = token_of (front is_ink (drop i bs)) (record { line = line; byte = at + i })

  abbrev later : Bool → List Tok
  later inside = tokens_from inside line (at + (i + 1)) (drop (i + 1) bs)

  step : (inside : Bool) → tokens_from inside line (at + i) (drop i bs) ≡ elim (is_ink byte && not inside) [ true ↦ begun ∷ later (is_ink byte) | false ↦ later (is_ink byte) ]
  unfolding tokens_from
  step inside =
      let split = drop_more bs i 0 within in
      let from : List ℕ → ℕ → List Tok = λ l n. elim (is_ink byte && not inside) [
        | true ↦ token_of (front is_ink l) (record { line = line; byte = at + i }) ∷ tokens_from (is_ink byte) line n (drop (i + 1) bs)
        | false ↦ tokens_from (is_ink byte) line n (drop (i + 1) bs)
      ]
      in
      ap (tokens_from inside line (at + i)) split ∙ ap (λ l. from l (at + i + 1)) (sym split) ∙ ap (from (drop i bs)) (add_assoc at i 1)

  joined : (ts us : List Tok) (here begins : Bool) → us ≡ cond begins (take 7 (ts ++ begun ∷ [])) ts → take 7 (us ++ later here) ≡ take 7 (ts ++ elim begins [ true ↦ begun ∷ later here | false ↦ later here ])
  joined ts us here true more = ap (λ l. take 7 (l ++ later here)) more ∙ take_pushed 7 ts begun (later here)
  joined ts us here false more = ap (λ l. take 7 (l ++ later here)) more

  -- what is held and what is left of the line give all its tokens, still
  pub keeps : (ts us all : List Tok) (inside here : Bool) → here ≡ is_ink byte → us ≡ cond (is_ink byte && not inside) (take 7 (ts ++ begun ∷ [])) ts → take 7 (ts ++ tokens_from inside line (at + i) (drop i bs)) ≡ all → take 7 (us ++ later here) ≡ all
  keeps ts us all inside here ink more held =
      ap (λ v. take 7 (us ++ later v)) ink ∙ joined ts us (is_ink byte) (is_ink byte && not inside) more ∙ ap (λ l. take 7 (ts ++ l)) (sym (step inside)) ∙ held

-- at the line's end
pub keeps_all : (ts all : List Tok) (inside : Bool) (line at : ℕ) (bs : List ℕ) (i : ℕ) → length ts ≤ 7 → length bs ≤ i → take 7 (ts ++ tokens_from inside line at (drop i bs)) ≡ all → ts ≡ all
unfolding tokens_from
keeps_all ts all inside line at bs i few end held =
    sym (take_all 7 ts few)
    ∙ ap (take 7) (sym (append-nil ts))
    ∙ ap (λ l. take 7 (ts ++ tokens_from inside line at l)) (sym (drop_of_length-le bs end))
    ∙ held
