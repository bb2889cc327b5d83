-- The words of a page.
use Rattle.std.proofs.Common.{◌≡◌, ℕ, suc, ◌+◌, ◌-◌, ◌<◌, ◌≤◌, List, ◌∷◌, ◌++◌, length, get_or, replicate, sym, refl, ap, ◌∙◌, inl, inr, arith, length-append, length-take-le, get_or-take}
use Rattle.std.proofs.lemmas.List.{get_or_append_left, get_or-append_right, get_or_past, get_or-replicate}
use Rattle.std.proofs.lemmas.Bool.{cases_lt}
use Rattle.plain.specs.Plain.{Plain, eight, head_words, page}

eight_long : (xs : List ℕ) → length (eight xs) ≡ 8
eight_long xs = length-take-le 8 (xs ++ replicate 8 0) (simp length-append (omega arith))

eight_at : (xs : List ℕ) (k : ℕ) → k < 8 → get_or (eight xs) k 0 ≡ get_or xs k 0
eight_at xs k h =
    get_or-take 8 (xs ++ replicate 8 0) k 0 h
    ∙ elim (cases_lt k (length xs)) [
      | inl l ↦ get_or_append_left xs (replicate 8 0) 0 k l
      | inr l ↦ get_or-append_right xs (replicate 8 0) (length xs) k 0 refl l ∙ get_or-replicate 8 (k - length xs) 0 0 (omega arith) ∙ sym (get_or_past xs k 0 l)
    ]

behind_four : (a b c d : ℕ) (xs : List ℕ) (k : ℕ) → 4 ≤ k → get_or (a ∷ b ∷ c ∷ d ∷ xs) k 0 ≡ get_or xs (k - 4) 0
behind_four a b c d xs k h = let e : k ≡ suc (suc (suc (suc (k - 4)))) = omega arith in ap (λ n. get_or (a ∷ b ∷ c ∷ d ∷ xs) n 0) e

module _ (m : Plain) where
  head_long : length (head_words m) ≡ 12
  head_long = let e = eight_long m.emitted in omega arith

  pub page-length : length (page m) ≡ 12 + length m.variables
  page-length = let e = head_long in let all = length-append (head_words m) m.variables in omega arith

  pub page_record : (k : ℕ) → 4 ≤ k → k < 12 → get_or (page m) k 0 ≡ get_or m.emitted (k - 4) 0
  page_record k l h =
      let e = head_long in
      get_or_append_left (head_words m) m.variables 0 k (omega arith)
      ∙ behind_four _ _ _ _ (eight m.emitted) k l
      ∙ eight_at m.emitted (k - 4) (omega arith)

  pub page_variables : (k : ℕ) → 12 ≤ k → get_or (page m) k 0 ≡ get_or m.variables (k - 12) 0
  page_variables k h = get_or-append_right (head_words m) m.variables 12 k 0 head_long h
