-- What the words say once the entries of a commit are stored at their places.
use Rattle.std.proofs.Common.{◌≡◌, ◌≢◌, ℕ, zero, suc, ◌+◌, ◌/◌, ◌%◌, ◌<◌, ◌≤◌, Bool, true, cond, ltb, ◌⊎◌, List, [], ◌∷◌, ◌++◌, length, map, get_or, set, drop, take, sym, refl, ap, ◌∙◌, inl, inr, subst, arith, add-zero}
use Rattle.std.specs.List.{filter, range_with_len}
use Rattle.std.proofs.lemmas.Bool.{cases_Bool, cases_eq, cond-true, lt-ltb}
use Rattle.std.proofs.lemmas.List.{ext_get_or, get_or-drop, get_or-set_other, get_or-set_same, get_or-take, length-drop, length-set, length-take-le}
use Rattle.laws.specs.Views.{overlay}
use Rattle.laws.proofs.Views.{get_or-overlay, length-overlay}
use Rattle.program.specs.declared.statement.Next.{Next}
use Rattle.program.specs.Runs.{next_word}
use Rattle.program.specs.Sound.{Source, sound}
use Rattle.program.proofs.Indices.{same_index}
use Rattle.facts.specs.Sets.{has}
use Rattle.layout.specs.declared.store.Store.{Store}
use Rattle.layout.specs.Places.{head_place, least_length, length_place, log_place, next_place, number_high_place, number_low_place, record_place, variable_place}
use Rattle.calls.specs.Laws.{EntriesTell, TellsAttempt, all_stored}
use Rattle.calls.specs.Running.{set_entries, following, stores_from}
use Rattle.calls.specs.Stages.{Attempt}
use Rattle.calls.specs.Words.{next_at, variables_in}
use Rattle.calls.proofs.Entries.{record_few}
use Rattle.calls.proofs.Fits.{FitsParts, fits_parts}
use Rattle.calls.proofs.Plainly.{few_variables, variables_long}

-- Parts of lists

-- the words xs stand from place n on
part_is : (n : ℕ) (ws xs : List ℕ) → n + length xs ≤ length ws → ((i : ℕ) → i < length xs → get_or ws (n + i) 0 ≡ get_or xs i 0) → take (length xs) (drop n ws) ≡ xs
part_is n ws xs long h =
    let size = length-take-le (length xs) (drop n ws) (omega (arith, length-drop n ws)) in
    ext_get_or 0 (take (length xs) (drop n ws)) xs size
    (λ i l. let inside : i < length xs = omega (arith, size) in get_or-take (length xs) (drop n ws) i 0 inside ∙ get_or-drop n ws i 0 ∙ h i inside)

-- the same words stand behind
same_behind : (n : ℕ) (xs ys : List ℕ) → length xs ≡ length ys → ((q : ℕ) → n ≤ q → get_or xs q 0 ≡ get_or ys q 0) → drop n xs ≡ drop n ys
same_behind n xs ys size h = ext_get_or 0 (drop n xs) (drop n ys) (omega (arith, length-drop n xs, length-drop n ys)) (λ i l. get_or-drop n xs i 0 ∙ h (n + i) (omega arith) ∙ sym (get_or-drop n ys i 0))

-- Stores

all_stored-append : (xs ys : List Store) (ws : List ℕ) → all_stored (xs ++ ys) ws ≡ all_stored ys (all_stored xs ws)
all_stored-append [] ys ws = refl
all_stored-append (s ∷ xs) ys ws = all_stored-append xs ys (set ws s.place s.word)

length-all_stored : (es : List Store) (ws : List ℕ) → length (all_stored es ws) ≡ length ws
length-all_stored [] ws = refl
length-all_stored (s ∷ es) ws = length-all_stored es (set ws s.place s.word) ∙ length-set ws s.place s.word

-- Stores of words from a place on

-- they let other places be
words_apart : (place : ℕ) (xs ws : List ℕ) (q : ℕ) → (q < place) ⊎ (place + length xs ≤ q) → get_or (all_stored (stores_from place xs) ws) q 0 ≡ get_or ws q 0
words_apart place [] ws q h = refl
words_apart place (x ∷ xs) ws q (inl low) = words_apart (place + 1) xs (set ws place x) q (inl (omega arith)) ∙ get_or-set_other ws place q x 0 (λ e. omega arith)
words_apart place (x ∷ xs) ws q (inr high) = words_apart (place + 1) xs (set ws place x) q (inr (omega arith)) ∙ get_or-set_other ws place q x 0 (λ e. omega arith)

-- and each word stands then
words_stand : (place : ℕ) (xs ws : List ℕ) (i : ℕ) → i < length xs → place + length xs ≤ length ws → get_or (all_stored (stores_from place xs) ws) (place + i) 0 ≡ get_or xs i 0
words_stand place [] ws i l long = absurd (omega arith)
words_stand place (x ∷ xs) ws zero l long = words_apart (place + 1) xs (set ws place x) (place + 0) (inl (omega arith)) ∙ ap (λ q. get_or (set ws place x) q 0) (add-zero place) ∙ get_or-set_same ws place x 0 (omega arith)
words_stand place (x ∷ xs) ws (suc i) l long =
    let behind : place + suc i ≡ place + 1 + i = omega arith in
    ap (λ q. get_or (all_stored (stores_from (place + 1) xs) (set ws place x)) q 0) behind ∙ words_stand (place + 1) xs (set ws place x) i (omega arith) (omega (arith, length-set ws place x))

-- Stores of the variables that pass a test

module _ (test : ℕ → Bool) (word : ℕ → ℕ) where
  abbrev of_variables : ℕ → ℕ → List Store
  of_variables first count = map (λ v. record { place = variable_place v; word = word v }) (filter test (range_with_len first count))

  -- they let other places be
  variables_apart : (first count : ℕ) (ws : List ℕ) (q : ℕ) → ((v : ℕ) → first ≤ v → v < first + count → test v ≡ true → variable_place v ≢ q)
      → get_or (all_stored (of_variables first count) ws) q 0 ≡ get_or ws q 0
  variables_apart first zero ws q h = refl
  variables_apart first (suc count) ws q h =
      let on : (v : ℕ) → first + 1 ≤ v → v < first + 1 + count → test v ≡ true → variable_place v ≢ q = λ v l m. h v (omega arith) (omega arith) in
      elim (cases_Bool (test first)) [
        | inl t ↦ rw t (variables_apart (first + 1) count (set ws (variable_place first) (word first)) q on ∙ get_or-set_other ws (variable_place first) q (word first) 0 (λ e. h first (omega arith) (omega arith) t (sym e)))
        | inr t ↦ rw t (variables_apart (first + 1) count ws q on)
      ]

  first_stands : (first count : ℕ) (ws : List ℕ) → variable_place first < length ws
      → get_or (all_stored (of_variables first (suc count)) ws) (variable_place first) 0 ≡ cond (test first) (word first) (get_or ws (variable_place first) 0)
  first_stands first count ws long =
      elim (cases_Bool (test first)) [
        | inl t ↦ rw t (variables_apart (first + 1) count (set ws (variable_place first) (word first)) (variable_place first) (λ v l m t e. omega arith) ∙ get_or-set_same ws (variable_place first) (word first) 0 long)
        | inr t ↦ rw t (variables_apart (first + 1) count ws (variable_place first) (λ v l m t e. omega arith))
      ]

  -- and each of these variables is its word then
  variables_stand : (first count : ℕ) (ws : List ℕ) (v : ℕ) → first ≤ v → v < first + count → variable_place v < length ws
      → get_or (all_stored (of_variables first count) ws) (variable_place v) 0 ≡ cond (test v) (word v) (get_or ws (variable_place v) 0)
  variables_stand first zero ws v l m long = absurd (omega arith)
  variables_stand first (suc count) ws v l m long =
      elim (cases_eq first v) [
        | inl same ↦ subst (λ v. get_or (all_stored (of_variables first (suc count)) ws) (variable_place v) 0 ≡ cond (test v) (word v) (get_or ws (variable_place v) 0)) same (first_stands first count ws (omega arith))
        | inr other ↦ elim (cases_Bool (test first)) [
          | inl t ↦
              let with_first : List ℕ = set ws (variable_place first) (word first) in
              rw t
              (variables_stand (first + 1) count with_first v (omega arith) (omega arith) (omega (arith, length-set ws (variable_place first) (word first)))
              ∙ ap (cond (test v) (word v)) (get_or-set_other ws (variable_place first) (variable_place v) (word first) 0 (λ e. other (omega arith))))
          | inr t ↦ rw t (variables_stand (first + 1) count ws v (omega arith) (omega arith) long)
        ]
      ]

-- Stores of the first four entries

module _ (ws : List ℕ) (low high next few : ℕ) where
  abbrev with_low : List ℕ
  with_low = set ws number_low_place low

  abbrev with_high : List ℕ
  with_high = set with_low number_high_place high

  abbrev with_next : List ℕ
  with_next = set with_high next_place next

  abbrev headed : List ℕ
  headed = set with_next length_place few

  length-headed : length headed ≡ length ws
  length-headed = length-set with_next length_place few ∙ length-set with_high next_place next ∙ length-set with_low number_high_place high ∙ length-set ws number_low_place low

  -- they let other places be
  others_apart : (q : ℕ) → (q ≡ head_place) ⊎ (length_place < q) → get_or headed q 0 ≡ get_or ws q 0
  others_apart q (inl e) =
      get_or-set_other with_next length_place q few 0 (λ z. omega arith)
      ∙ get_or-set_other with_high next_place q next 0 (λ z. omega arith)
      ∙ get_or-set_other with_low number_high_place q high 0 (λ z. omega arith)
      ∙ get_or-set_other ws number_low_place q low 0 (λ z. omega arith)
  others_apart q (inr l) =
      get_or-set_other with_next length_place q few 0 (λ z. omega arith)
      ∙ get_or-set_other with_high next_place q next 0 (λ z. omega arith)
      ∙ get_or-set_other with_low number_high_place q high 0 (λ z. omega arith)
      ∙ get_or-set_other ws number_low_place q low 0 (λ z. omega arith)

  -- and each word stands then
  record HeadStands : Type 0 where
    low_is : get_or headed number_low_place 0 ≡ low
    high_is : get_or headed number_high_place 0 ≡ high
    next_is : get_or headed next_place 0 ≡ next
    few_is : get_or headed length_place 0 ≡ few

  head_stands : 5 ≤ length ws → HeadStands
  head_stands long = record {
    low_is =
        get_or-set_other with_next length_place number_low_place few 0 (λ z. omega arith)
        ∙ get_or-set_other with_high next_place number_low_place next 0 (λ z. omega arith)
        ∙ get_or-set_other with_low number_high_place number_low_place high 0 (λ z. omega arith)
        ∙ get_or-set_same ws number_low_place low 0 (omega arith);
    high_is =
        get_or-set_other with_next length_place number_high_place few 0 (λ z. omega arith)
        ∙ get_or-set_other with_high next_place number_high_place next 0 (λ z. omega arith)
        ∙ get_or-set_same with_low number_high_place high 0 (omega (arith, length-set ws number_low_place low));
    next_is =
        get_or-set_other with_next length_place next_place few 0 (λ z. omega arith)
        ∙ get_or-set_same with_high next_place next 0 (omega (arith, length-set with_low number_high_place high, length-set ws number_low_place low));
    few_is = get_or-set_same with_next length_place few 0 (omega (arith, length-set with_high next_place next, length-set with_low number_high_place high, length-set ws number_low_place low));
  }

-- The entries of an attempt

-- what comes next, by its word
next_again : (n : Next) → next_at (next_word n) ≡ n
unfolding next_at
next_again Next.Stopped = refl
next_again (Next.Task t) = cond-true (ltb t.number 16) _ _ (lt-ltb t.number 16 t.known) ∙ ap Next.Task (same_index _ t (omega (arith, t.known)))

module _ (p : Source) (a : Attempt) (number : ℕ) (next : Next) (ws : List ℕ) (h : sound p ≡ true) (f : FitsParts p a) (long : least_length (length p.firsts) ≤ length ws) where
  abbrev head : List ℕ
  head = headed ws (following number % 65536) (following number / 65536) (next_word next) (length a.emitted)

  abbrev recorded : List ℕ
  recorded = all_stored (stores_from record_place a.emitted) head

  abbrev left : List ℕ
  left = all_stored (of_variables (has a.set) (λ v. get_or a.copies v 0) 0 48) recorded

  few : length a.emitted ≤ 8
  few = record_few p a f

  head_long : length head ≡ length ws
  head_long = length-headed ws (following number % 65536) (following number / 65536) (next_word next) (length a.emitted)

  recorded_long : length recorded ≡ length ws
  recorded_long = length-all_stored (stores_from record_place a.emitted) head ∙ head_long

  left_long : length left ≡ length ws
  left_long = length-all_stored (of_variables (has a.set) (λ v. get_or a.copies v 0) 0 48) recorded ∙ recorded_long

  -- before the variables
  page_left : (q : ℕ) → q < variable_place 0 → get_or left q 0 ≡ get_or recorded q 0
  page_left q l = variables_apart (has a.set) (λ v. get_or a.copies v 0) 0 48 recorded q (λ v m n t e. omega arith)

  -- before the record
  head_left : (q : ℕ) → q < record_place → get_or left q 0 ≡ get_or head q 0
  head_left q l = page_left q (omega arith) ∙ words_apart record_place a.emitted head q (inl l)

  -- behind the record
  behind_left : (q : ℕ) → variable_place 0 ≤ q → get_or recorded q 0 ≡ get_or ws q 0
  behind_left q l =
      words_apart record_place a.emitted head q (inr (omega (arith, few)))
      ∙ others_apart ws (following number % 65536) (following number / 65536) (next_word next) (length a.emitted) q (inr (omega arith))

  record_left : take (length a.emitted) (drop record_place left) ≡ a.emitted
  record_left =
      part_is record_place left a.emitted (omega (arith, left_long, few))
      (λ i l. page_left (record_place + i) (omega (arith, few)) ∙ words_stand record_place a.emitted head i l (omega (arith, head_long, few)))

  variables_left : variables_in p left ≡ overlay (has a.set) a.copies (variables_in p ws)
  variables_left =
      let old : List ℕ = variables_in p ws in
      let new : List ℕ = overlay (has a.set) a.copies old in
      let size : length new ≡ length p.firsts = length-overlay (has a.set) a.copies old ∙ variables_long p ws long in
      let all : take (length new) (drop (variable_place 0) left) ≡ new =
      part_is (variable_place 0) left new (omega (arith, left_long, size))
      (λ v l.
      let known : v < length p.firsts = omega (arith, size) in
      let few = few_variables p h in
      variables_stand (has a.set) (λ v. get_or a.copies v 0) 0 48 recorded v (omega arith) (omega arith) (omega (arith, recorded_long))
      ∙ ap (cond (has a.set v) (get_or a.copies v 0)) (behind_left (variable_place v) (omega arith) ∙ sym (get_or-take (length p.firsts) (drop (variable_place 0) ws) v 0 known ∙ get_or-drop (variable_place 0) ws v 0))
      ∙ sym (get_or-overlay (has a.set) a.copies old v (omega (arith, f.copies)) (omega (arith, variables_long p ws long)))) in
      ap (λ n. take n (drop (variable_place 0) left)) (sym size) ∙ all

  log_left : drop (log_place (length p.firsts)) left ≡ drop (log_place (length p.firsts)) ws
  log_left =
      same_behind (log_place (length p.firsts)) left ws left_long
      (λ q l. variables_apart (has a.set) (λ v. get_or a.copies v 0) 0 48 recorded q (λ v m n t e. let known = f.set v n t in omega arith) ∙ behind_left q (omega arith))

  tells : TellsAttempt p number next a ws left
  tells =
      let s = head_stands ws (following number % 65536) (following number / 65536) (next_word next) (length a.emitted) (omega arith) in
      let low = head_left number_low_place (omega arith) ∙ s.low_is in
      let high = head_left number_high_place (omega arith) ∙ s.high_is in
      let word : get_or left next_place 0 ≡ next_word next = head_left next_place (omega arith) ∙ s.next_is in
      let size = head_left length_place (omega arith) ∙ s.few_is in
      record {
        visit = omega (arith, low, high);
        word = word;
        comes = ap next_at word ∙ next_again next;
        emitted = ap (λ n. take n (drop record_place left)) size ∙ record_left;
        variables = variables_left;
        head = head_left head_place (omega arith) ∙ others_apart ws (following number % 65536) (following number / 65536) (next_word next) (length a.emitted) head_place (inl refl);
        log = log_left;
      }

pub entries_tell : EntriesTell
unfolding set_entries
entries_tell = record {
  told = λ p a number next ws h fits long.
      subst (TellsAttempt p number next a ws)
      (sym
      (all_stored-append (stores_from record_place a.emitted) (of_variables (has a.set) (λ v. get_or a.copies v 0) 0 48)
      (headed ws (following number % 65536) (following number / 65536) (next_word next) (length a.emitted))))
      (tells p a number next ws h (fits_parts p a fits) long);
}
