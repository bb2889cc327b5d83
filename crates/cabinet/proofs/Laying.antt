-- Stores one after the other.
use Rattle.std.proofs.Common.{◌≡◌, ℕ, suc, ◌+◌, ◌<◌, ◌≤◌, List, [], ◌∷◌, ◌++◌, length, get_or, drop, replicate, Ok, Err, Result, refl, sym, ap, ◌∙◌, arith, drop-cons}
use Rattle.std.proofs.lemmas.List.{drop_all}
use Rattle.memory.specs.declared.fault.Fault.{Fault}
use Rattle.memory.specs.Value.{Value, write_answer, written}
use Rattle.program.specs.Sound.{Source}
use Rattle.layout.specs.declared.store.Store.{Store}
use Rattle.layout.specs.Places.{head_place, length_place, next_place, variable_place}
use Rattle.calls.specs.Opening.{lay_stores, stored_all, stores_answer, unlaid_word}
use Rattle.calls.specs.Running.{stores_from}
use Rattle.cabinet.specs.Laying.{answer_from, left_from, page_answer, page_left}

-- what stores of the words from the k-th on answer and leave
unfoldable pub rest_answer : ℕ → List ℕ → ℕ → Value → Result (Unit {0}) Fault
rest_answer place words k v = stores_answer v (stores_from (place + k) (drop k words))

unfoldable pub rest_left : ℕ → List ℕ → ℕ → Value → Value
rest_left place words k v = stored_all v (stores_from (place + k) (drop k words))

module _ (place : ℕ) (words : List ℕ) where
  pub all_answer : (v : Value) → rest_answer place words 0 v ≡ answer_from place words v
  unfolding rest_answer answer_from
  all_answer v = let e : place + 0 ≡ place = omega arith in ap (λ p. stores_answer v (stores_from p words)) e

  pub all_left : (v : Value) → rest_left place words 0 v ≡ left_from place words v
  unfolding rest_left left_from
  all_left v = let e : place + 0 ≡ place = omega arith in ap (λ p. stored_all v (stores_from p words)) e

  module _ (k : ℕ) (v : Value) where
    -- the store that comes
    comes : k < length words → stores_from (place + k) (drop k words) ≡ record { place = place + k; word = get_or words k 0 } ∷ stores_from (place + (k + 1)) (drop (k + 1) words)
    comes l =
        let here : Store = record { place = place + k; word = get_or words k 0 } in
        let e : place + k + 1 ≡ place + (k + 1) = omega arith in
        let f : suc k ≡ k + 1 = omega arith in
        ap (stores_from (place + k)) (drop-cons words k 0 l) ∙ ap (λ p. here ∷ stores_from p (drop (suc k) words)) e ∙ ap (λ n. here ∷ stores_from (place + (k + 1)) (drop n words)) f

    pub next_answer : k < length words → rest_answer place words k v ≡ elim (write_answer v (place + k)) [ Ok _ ↦ rest_answer place words (k + 1) (written v (place + k) (get_or words k 0)) | Err e ↦ Err e ]
    unfolding rest_answer stores_answer
    next_answer l = ap (stores_answer v) (comes l)

    pub next_left : k < length words → rest_left place words k v ≡ elim (write_answer v (place + k)) [ Ok _ ↦ rest_left place words (k + 1) (written v (place + k) (get_or words k 0)) | Err e ↦ written v (place + k) (get_or words k 0) ]
    unfolding rest_left stored_all
    next_left l = ap (stored_all v) (comes l)

    none_left : length words ≤ k → stores_from (place + k) (drop k words) ≡ []
    none_left l = ap (stores_from (place + k)) (drop_all k words l)

    pub no_answer : length words ≤ k → rest_answer place words k v ≡ Ok tt
    unfolding rest_answer stores_answer
    no_answer l = ap (stores_answer v) (none_left l)

    pub all_is_left : length words ≤ k → rest_left place words k v ≡ v
    unfolding rest_left stored_all
    all_is_left l = ap (stored_all v) (none_left l)

-- Stores of a list and then of another are those of both.
abbrev answer_behind : List Store → Value → Result (Unit {0}) Fault → Result (Unit {0}) Fault
answer_behind ys v r = elim r [ Ok _ ↦ stores_answer v ys | Err e ↦ Err e ]

abbrev left_behind : List Store → Value → Result (Unit {0}) Fault → Value
left_behind ys v r = elim r [ Ok _ ↦ stored_all v ys | Err e ↦ v ]

-- by what the first answers
abbrev pub told_first : Value → Store → List Store → Result (Unit {0}) Fault → Result (Unit {0}) Fault
told_first v s more r = elim r [ Ok _ ↦ stores_answer (written v s.place s.word) more | Err e ↦ Err e ]

abbrev pub left_first : Value → Store → List Store → Result (Unit {0}) Fault → Value
left_first v s more r = elim r [ Ok _ ↦ stored_all (written v s.place s.word) more | Err e ↦ written v s.place s.word ]

answer_of_both : (xs ys : List Store) (v : Value) → stores_answer v (xs ++ ys) ≡ answer_behind ys (stored_all v xs) (stores_answer v xs)
unfolding stores_answer stored_all
answer_of_both [] ys v = refl
answer_of_both (s ∷ xs) ys v = elim (write_answer v s.place) as (λ r. told_first v s (xs ++ ys) r ≡ answer_behind ys (left_first v s xs r) (told_first v s xs r)) [ Ok u ↦ answer_of_both xs ys (written v s.place s.word) | Err e ↦ refl ]

left_of_both : (xs ys : List Store) (v : Value) → stored_all v (xs ++ ys) ≡ left_behind ys (stored_all v xs) (stores_answer v xs)
unfolding stores_answer stored_all
left_of_both [] ys v = refl
left_of_both (s ∷ xs) ys v = elim (write_answer v s.place) as (λ r. left_first v s (xs ++ ys) r ≡ left_behind ys (left_first v s xs r) (told_first v s xs r)) [ Ok u ↦ left_of_both xs ys (written v s.place s.word) | Err e ↦ refl ]

-- so it is with whatever comes to stores of the other list
both_answer : (xs ys : List Store) (next : Value → Result (Unit {0}) Fault) → ((v : Value) → next v ≡ stores_answer v ys) → (v : Value)
    → elim (stores_answer v xs) as (λ r. Result (Unit {0}) Fault) [ Ok _ ↦ next (stored_all v xs) | Err e ↦ Err e ] ≡ stores_answer v (xs ++ ys)
both_answer xs ys next h v =
    elim (stores_answer v xs) as (λ r. elim r as (λ r. Result (Unit {0}) Fault) [ Ok _ ↦ next (stored_all v xs) | Err e ↦ Err e ] ≡ answer_behind ys (stored_all v xs) r) [ Ok u ↦ h (stored_all v xs) | Err e ↦ refl ]
    ∙ sym (answer_of_both xs ys v)

both_left : (xs ys : List Store) (next : Value → Value) → ((v : Value) → next v ≡ stored_all v ys) → (v : Value)
    → elim (stores_answer v xs) as (λ r. Value) [ Ok _ ↦ next (stored_all v xs) | Err e ↦ stored_all v xs ] ≡ stored_all v (xs ++ ys)
both_left xs ys next h v =
    elim (stores_answer v xs) as (λ r. elim r as (λ r. Value) [ Ok _ ↦ next (stored_all v xs) | Err e ↦ stored_all v xs ] ≡ left_behind ys (stored_all v xs) r) [ Ok u ↦ h (stored_all v xs) | Err e ↦ refl ]
    ∙ sym (left_of_both xs ys v)

-- the five parts of the page are the stores of lay
module _ (p : Source) where
  abbrev unlaid : List Store
  unlaid = stores_from next_place (unlaid_word ∷ [])

  abbrev numbers : List Store
  numbers = stores_from head_place (replicate 3 0)

  abbrev record_words : List Store
  record_words = stores_from length_place (replicate 9 0)

  abbrev variables : List Store
  variables = stores_from (variable_place 0) p.firsts

  abbrev laid : List Store
  laid = stores_from next_place (0 ∷ [])

  pub page_answers : (v : Value) → page_answer p v ≡ stores_answer v (lay_stores p)
  unfolding page_answer answer_from left_from
  page_answers v =
      both_answer unlaid (numbers ++ (record_words ++ (variables ++ laid))) _
      (both_answer numbers (record_words ++ (variables ++ laid)) _
      (both_answer record_words (variables ++ laid) _
      (both_answer variables laid _ (λ v. refl)))) v

  pub page_leaves : (v : Value) → page_left p v ≡ stored_all v (lay_stores p)
  unfolding page_left answer_from left_from
  page_leaves v =
      both_left unlaid (numbers ++ (record_words ++ (variables ++ laid))) _
      (both_left numbers (record_words ++ (variables ++ laid)) _
      (both_left record_words (variables ++ laid) _
      (both_left variables laid _ (λ v. refl)))) v
