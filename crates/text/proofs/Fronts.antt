-- Fronts of a text, and the bytes at which they end.
use Rattle.std.proofs.Common.{◌≡◌, ℕ, suc, ◌+◌, Bool, true, false, cond, List, [], ◌∷◌, take, drop, refl, ap, sym, ◌∙◌, arith, inl, inr, one-add}
use Rattle.std.specs.List.{prefix_len, AllPass}
use Rattle.std.proofs.lemmas.Bool.{cases_Bool}
use Rattle.std.proofs.lemmas.Bool.Decides.{nat_tests}
use Rattle.std.proofs.lemmas.List.Elements.{All-nil, All-cons, All-same}
use Rattle.text.specs.Bytes.{is_ink, in_line}
use Rattle.text.specs.Tokens.{front}

pub ink_in_line : (b : ℕ) → is_ink b ≡ true → in_line b ≡ true
ink_in_line b e = grind (arith, nat_tests)

pub end_no_ink : (b : ℕ) → in_line b ≡ false → is_ink b ≡ false
end_no_ink b e = grind (arith, nat_tests)

module _ (test : ℕ → Bool) where
  pub prefix_yes : (b : ℕ) (bs : List ℕ) → test b ≡ true → prefix_len test (b ∷ bs) ≡ suc (prefix_len test bs)
  prefix_yes b bs e = ap (λ v. cond v (1 + prefix_len test bs) 0) e ∙ one-add (prefix_len test bs)

  pub prefix_no : (b : ℕ) (bs : List ℕ) → test b ≡ false → prefix_len test (b ∷ bs) ≡ 0
  prefix_no b bs e = ap (λ v. cond v (1 + prefix_len test bs) 0) e

  pub front_yes : (b : ℕ) (bs : List ℕ) → test b ≡ true → front test (b ∷ bs) ≡ b ∷ front test bs
  front_yes b bs e = ap (λ n. take n (b ∷ bs)) (prefix_yes b bs e)

  pub front_no : (b : ℕ) (bs : List ℕ) → test b ≡ false → front test (b ∷ bs) ≡ []
  front_no b bs e = ap (λ n. take n (b ∷ bs)) (prefix_no b bs e)

  pub front_passes : (bs : List ℕ) → AllPass test (front test bs)
  front_passes [] = All-nil (λ b. test b ≡ true)
  front_passes (b ∷ bs) =
      elim (cases_Bool (test b)) [
        | inl p ↦ All-same (λ c. test c ≡ true) _ _ (front_yes b bs p) (All-cons (λ c. test c ≡ true) b (front test bs) p (front_passes bs))
        | inr f ↦ All-same (λ c. test c ≡ true) _ _ (front_no b bs f) (All-nil (λ c. test c ≡ true))
      ]

  -- what is behind a front begins with a byte that does not pass
  pub front_ends : (bs : List ℕ) (b : ℕ) (back : List ℕ) → drop (prefix_len test bs) bs ≡ b ∷ back → test b ≡ false
  front_ends [] b back e = cc
  front_ends (c ∷ bs) b back e =
      elim (cases_Bool (test c)) [
        | inl p ↦ front_ends bs b back (ap (λ n. drop n (c ∷ bs)) (sym (prefix_yes c bs p)) ∙ e)
        | inr f ↦ let same : c ∷ bs ≡ b ∷ back = ap (λ n. drop n (c ∷ bs)) (sym (prefix_no c bs f)) ∙ e in cc
      ]

-- a run of ink ends before its line does
pub front_within : (bs : List ℕ) → front is_ink (front in_line bs) ≡ front is_ink bs
front_within [] = refl
front_within (b ∷ bs) =
    elim (cases_Bool (is_ink b)) [
      | inl p ↦ ap (front is_ink) (front_yes in_line b bs (ink_in_line b p)) ∙ front_yes is_ink b (front in_line bs) p ∙ ap (λ l. b ∷ l) (front_within bs) ∙ sym (front_yes is_ink b bs p)
      | inr f ↦
          elim (cases_Bool (in_line b)) [
            | inl on ↦ ap (front is_ink) (front_yes in_line b bs on) ∙ front_no is_ink b (front in_line bs) f ∙ sym (front_no is_ink b bs f)
            | inr off ↦ ap (front is_ink) (front_no in_line b bs off) ∙ sym (front_no is_ink b bs f)
          ]
    ]
