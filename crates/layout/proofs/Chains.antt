-- Chains of entries: where each entry stands, and which words a memory with a whole chain in its log has.
use Rattle.std.proofs.Common.{arith, inl, inr, ◌≡◌, refl, sym, ap, ap₂, ◌∙◌, ℕ, zero, suc, ◌+◌, ◌*◌, ◌/◌, ◌%◌, ◌<◌, ◌≤◌, ◌==◌, true, false, cond, List, [], ◌∷◌, length, get_or, slice_index_or, slice_index}
use Rattle.std.proofs.lemmas.Bool.{and_from, and_parts, cases_Bool, cases_eq, cond-true, cond-false, eq-eqb, eqb-true, lt-ltb, ltb-true, ne_eqb, not-false, not_from_true, or_parts, or_from}
use Rattle.std.proofs.lemmas.List.{get_or_past}
use Rattle.program.specs.declared.check.Scope.{Scope}
use Rattle.layout.specs.declared.store.Store.{Store}
use Rattle.layout.specs.Places.{head_place, log_place, page_end}
use Rattle.layout.specs.Chains.{HasChain, StandFrom, astray, chain_sound, chain_words, entry_at, entry_sound, log_astray, most_entries, next_entry, word_fits}
use Rattle.layout.specs.Laws.{AstrayTells, HasLog}

pub length_chain_words : (e : ℕ) (es : List Store) → length (chain_words e es) ≡ 3 * length es
unfolding chain_words
length_chain_words e [] = refl
length_chain_words e (s ∷ more) = let l = length_chain_words (e + 3) more in omega arith

-- THE WORDS OF AN ENTRY

pub next_of_last : (e : ℕ) (es : List Store) (j : ℕ) → j % 3 ≡ 0 → j / 3 + 1 ≡ length es → get_or (chain_words e es) j 0 ≡ 0
unfolding chain_words
next_of_last e [] j r l = absurd (omega arith)
next_of_last e (s ∷ []) zero r l = refl
next_of_last e (s ∷ (t ∷ more)) zero r l = absurd (omega arith)
next_of_last e (s ∷ more) (suc zero) r l = absurd (omega arith)
next_of_last e (s ∷ more) (suc (suc zero)) r l = absurd (omega arith)
next_of_last e (s ∷ more) (suc (suc (suc j))) r l = next_of_last (e + 3) more j (omega arith) (omega arith)

pub next_of : (e : ℕ) (es : List Store) (j : ℕ) → j % 3 ≡ 0 → j / 3 + 1 < length es → get_or (chain_words e es) j 0 ≡ e + j + 3
unfolding chain_words
next_of e [] j r l = absurd (omega arith)
next_of e (s ∷ []) j r l = absurd (omega arith)
next_of e (s ∷ (t ∷ more)) zero r l = omega arith
next_of e (s ∷ (t ∷ more)) (suc zero) r l = absurd (omega arith)
next_of e (s ∷ (t ∷ more)) (suc (suc zero)) r l = absurd (omega arith)
next_of e (s ∷ (t ∷ more)) (suc (suc (suc j))) r l = let on = next_of (e + 3) (t ∷ more) j (omega arith) (omega arith) in omega arith

pub place_of : (e : ℕ) (es : List Store) (i j : ℕ) (d : Store) → i < length es → j ≡ 3 * i + 1 → get_or (chain_words e es) j 0 ≡ (get_or es i d).place
unfolding chain_words
place_of e [] i j d l h = absurd (omega arith)
place_of e (s ∷ more) zero zero d l h = absurd (omega arith)
place_of e (s ∷ more) zero (suc zero) d l h = refl
place_of e (s ∷ more) zero (suc (suc j)) d l h = absurd (omega arith)
place_of e (s ∷ more) (suc i) zero d l h = absurd (omega arith)
place_of e (s ∷ more) (suc i) (suc zero) d l h = absurd (omega arith)
place_of e (s ∷ more) (suc i) (suc (suc zero)) d l h = absurd (omega arith)
place_of e (s ∷ more) (suc i) (suc (suc (suc j))) d l h = place_of (e + 3) more i j d (omega arith) (omega arith)

pub word_of : (e : ℕ) (es : List Store) (i j : ℕ) (d : Store) → i < length es → j ≡ 3 * i + 2 → get_or (chain_words e es) j 0 ≡ (get_or es i d).word
unfolding chain_words
word_of e [] i j d l h = absurd (omega arith)
word_of e (s ∷ more) zero zero d l h = absurd (omega arith)
word_of e (s ∷ more) zero (suc zero) d l h = absurd (omega arith)
word_of e (s ∷ more) zero (suc (suc zero)) d l h = refl
word_of e (s ∷ more) zero (suc (suc (suc j))) d l h = absurd (omega arith)
word_of e (s ∷ more) (suc i) zero d l h = absurd (omega arith)
word_of e (s ∷ more) (suc i) (suc zero) d l h = absurd (omega arith)
word_of e (s ∷ more) (suc i) (suc (suc zero)) d l h = absurd (omega arith)
word_of e (s ∷ more) (suc i) (suc (suc (suc j))) d l h = word_of (e + 3) more i j d (omega arith) (omega arith)

pub none_behind : (e : ℕ) (es : List Store) (j : ℕ) → 3 * length es ≤ j → get_or (chain_words e es) j 0 ≡ 0
none_behind e es j h = get_or_past (chain_words e es) j 0 (let l = length_chain_words e es in omega arith)

-- SOUND ENTRIES

pub entry_parts : (n : Scope) (before : ℕ) (s : Store) → entry_sound n before s ≡ true → (before < s.place) × (s.place < page_end n.variables) × (word_fits n s ≡ true)
entry_parts n before s h =
    let parts = and_parts _ _ h in
    let between = and_parts _ _ parts.0 in
    (ltb-true before s.place between.0, ltb-true s.place (page_end n.variables) between.1, parts.1)

-- behind an earlier place too
sound_behind : (n : Scope) (before : ℕ) (later : ℕ) (s : Store) → before < later → entry_sound n later s ≡ true → entry_sound n before s ≡ true
sound_behind n before later s l h =
    let parts = entry_parts n later s h in
    let low = parts.0 in
    and_from _ _ (and_from _ _ (lt-ltb before s.place (omega arith)) (lt-ltb s.place (page_end n.variables) parts.1)) parts.2

-- their places rise, so they are few
pub chain_few : (n : Scope) (before : ℕ) (es : List Store) → before ≤ 12 + n.variables → chain_sound n before es ≡ true → length es + before ≤ 12 + n.variables
unfolding chain_sound
chain_few n before [] l h = omega arith
chain_few n before (s ∷ more) l h =
    let parts = and_parts _ _ h in
    let entry = entry_parts n before s parts.0 in
    let low = entry.0 in
    let high = entry.1 in
    let on = chain_few n s.place more (omega arith) parts.1 in
    omega arith

-- each is of a place behind the first, and its word may stand there
pub entry_fits : (n : Scope) (before : ℕ) (es : List Store) (i : ℕ) → chain_sound n before es ≡ true → i < length es → entry_sound n before (slice_index_or es i (record { place = 0; word = 0 })) ≡ true
unfolding chain_sound
entry_fits n before [] i h l = absurd (omega arith)
entry_fits n before (s ∷ more) zero h l = (and_parts _ _ h).0
entry_fits n before (s ∷ more) (suc i) h l =
    let parts = and_parts _ _ h in
    sound_behind n before s.place _ (entry_parts n before s parts.0).0 (entry_fits n s.place more i parts.1 (omega arith))

-- ENTRIES IN MEMORY

module _ (e : ℕ) (es : List Store) (ws : List ℕ) (stands : StandFrom ws e (chain_words e es) (length (chain_words e es))) where
  word_stands : (i j : ℕ) → j < 3 → i < length es → slice_index ws (e + (3 * i + j)) ≡ slice_index (chain_words e es) (3 * i + j)
  word_stands i j k l = stands (3 * i + j) (let all = length_chain_words e es in omega arith)

  pub entry_stands : (i : ℕ) → i < length es → entry_at ws (e + 3 * i) ≡ slice_index_or es i (record { place = 0; word = 0 })
  entry_stands i l =
      ap₂ (λ p w. record { place = p; word = w })
      (ap (slice_index ws) (omega arith) ∙ word_stands i 1 (omega arith) l ∙ place_of e es i (3 * i + 1) (record { place = 0; word = 0 }) l refl)
      (ap (slice_index ws) (omega arith) ∙ word_stands i 2 (omega arith) l ∙ word_of e es i (3 * i + 2) (record { place = 0; word = 0 }) l refl)

  pub next_stands : (i : ℕ) → i < length es → slice_index ws (e + 3 * i) ≡ cond (suc i == length es) 0 (e + 3 * suc i)
  next_stands i l =
      let here = ap (slice_index ws) (let same : e + 3 * i ≡ e + (3 * i + 0) = omega arith in same) ∙ word_stands i 0 (omega arith) l in
      elim (cases_eq (suc i) (length es)) [
        | inl last ↦ here ∙ next_of_last e es (3 * i + 0) (omega arith) (omega arith) ∙ sym (cond-true _ _ _ (eq-eqb (suc i) (length es) last))
        | inr on ↦ here ∙ next_of e es (3 * i + 0) (omega arith) (omega arith) ∙ (let same : e + (3 * i + 0) + 3 ≡ e + 3 * suc i = omega arith in same) ∙ sym (cond-false _ _ _ (ne_eqb (suc i) (length es) on))
      ]

-- the words of a chain stand at e
abbrev Stands : List ℕ → ℕ → List Store → Type 0
Stands ws e es = StandFrom ws e (chain_words e es) (length (chain_words e es))

-- an entry before a chain
stands_cons : (ws : List ℕ) (e : ℕ) (more : List Store) → slice_index ws e ≡ next_entry e more → Stands ws (e + 3) more → Stands ws e (entry_at ws e ∷ more)
unfolding chain_words
stands_cons ws e more next h zero l = ap (slice_index ws) (omega arith) ∙ next
stands_cons ws e more next h (suc zero) l = refl
stands_cons ws e more next h (suc (suc zero)) l = refl
stands_cons ws e more next h (suc (suc (suc j))) l = ap (slice_index ws) (omega arith) ∙ h j (omega arith)

record Parts (ws : List ℕ) (e : ℕ) (s : Store) (more : List Store) : Type 0 where
  entry : entry_at ws e ≡ s
  next : slice_index ws e ≡ next_entry e more
  behind : Stands ws (e + 3) more

stands_parts : (ws : List ℕ) (e : ℕ) (s : Store) (more : List Store) → Stands ws e (s ∷ more) → Parts ws e s more
unfolding chain_words
stands_parts ws e s more h = record {
  entry = ap₂ (λ p w. record { place = p; word = w }) (h 1 (omega arith)) (h 2 (omega arith));
  next = ap (slice_index ws) (omega arith) ∙ h 0 (omega arith);
  behind = λ j l. ap (slice_index ws) (omega arith) ∙ h (suc (suc (suc j))) (omega arith);
}

-- THE LAW

-- a chain of sound entries that is looked at whole is not astray
seen_whole : (n : Scope) (ws : List ℕ) (k e before : ℕ) (es : List Store) → 0 < length es → length es ≤ k → chain_sound n before es ≡ true → Stands ws e es → astray k n ws e before ≡ false
unfolding astray chain_sound
seen_whole n ws k e before [] some few sound h = absurd (omega arith)
seen_whole n ws zero e before (s ∷ more) some few sound h = absurd (omega arith)
seen_whole n ws (suc k) e before (s ∷ []) some few sound h =
    let parts = stands_parts ws e s [] h in
    let at = and_parts _ _ sound in
    or_from _ _ (not_from_true _ (ap (entry_sound n before) parts.entry ∙ at.0)) (cond-true _ _ _ (eq-eqb _ _ parts.next))
seen_whole n ws (suc k) e before (s ∷ (t ∷ more)) some few sound h =
    let parts = stands_parts ws e s (t ∷ more) h in
    let at = and_parts (entry_sound n before s) (chain_sound n s.place (t ∷ more)) sound in
    let next = parts.next in
    let on = seen_whole n ws k (e + 3) s.place (t ∷ more) (omega arith) (omega arith) at.1 parts.behind in
    or_from _ _ (not_from_true _ (ap (entry_sound n before) parts.entry ∙ at.0))
    (cond-false _ _ _ (ne_eqb _ _ (λ z. let none : slice_index ws e ≡ 0 = z in absurd (omega arith)))
    ∙ or_from _ _ (not_from_true _ (eq-eqb _ _ next)) (ap (λ (x : Store). astray k n ws (e + 3) x.place) parts.entry ∙ on))

pub is_astray : (n : Scope) (ws : List ℕ) → HasLog n ws → log_astray n ws ≡ false
is_astray n ws (inl still) = cond-true _ _ _ (eq-eqb _ _ still)
is_astray n ws (inr (head, es, chain)) =
    let few = chain_few n 0 es (omega arith) chain.sound in
    cond-false _ _ _ (ne_eqb _ _ (λ z. let none : slice_index ws head_place ≡ 0 = z in absurd (omega arith)))
    ∙ or_from _ _ (not_from_true _ (eq-eqb _ _ head)) (seen_whole n ws (most_entries n.variables) (log_place n.variables) head_place es chain.some (omega arith) chain.sound chain.stands)

-- the chain that stands at e, if it is not astray
record Found (n : Scope) (ws : List ℕ) (e before : ℕ) : Type 0 where
  es : List Store
  some : 0 < length es
  sound : chain_sound n before es ≡ true
  stands : Stands ws e es

next_of_some : (e : ℕ) (es : List Store) → 0 < length es → next_entry e es ≡ e + 3
next_of_some e [] some = absurd (omega arith)
next_of_some e (s ∷ more) some = refl

found_last : (n : Scope) (ws : List ℕ) (e before : ℕ) → entry_sound n before (entry_at ws e) ≡ true → slice_index ws e ≡ 0 → Found n ws e before
unfolding chain_sound chain_words
found_last n ws e before fits next = record {
  es = entry_at ws e ∷ [];
  some = omega arith;
  sound = and_from _ _ fits refl;
  stands = stands_cons ws e [] next (λ j l. absurd (omega arith));
}

found_cons : (n : Scope) (ws : List ℕ) (e before : ℕ) → entry_sound n before (entry_at ws e) ≡ true → slice_index ws e ≡ e + 3 → Found n ws (e + 3) (entry_at ws e).place → Found n ws e before
unfolding chain_sound
found_cons n ws e before fits next f = record {
  es = entry_at ws e ∷ f.es;
  some = omega arith;
  sound = and_from _ _ fits f.sound;
  stands = stands_cons ws e f.es (next ∙ sym (next_of_some e f.es f.some)) f.stands;
}

find : (n : Scope) (ws : List ℕ) (k e before : ℕ) → astray k n ws e before ≡ false → Found n ws e before
unfolding astray
find n ws zero e before h = absurd (cc)
find n ws (suc k) e before h =
    let parts = or_parts _ _ h in
    let fits = not-false _ parts.0 in
    elim (cases_Bool (slice_index ws e == 0)) [
      | inl last ↦ found_last n ws e before fits (eqb-true _ _ last)
      | inr on ↦
          let behind = or_parts _ _ (sym (cond-false _ _ _ on) ∙ parts.1) in
          found_cons n ws e before fits (eqb-true _ _ (not-false _ behind.0)) (find n ws k (e + 3) (entry_at ws e).place behind.1)
    ]

pub not_astray : (n : Scope) (ws : List ℕ) → log_astray n ws ≡ false → HasLog n ws
not_astray n ws h =
    elim (cases_Bool (slice_index ws head_place == 0)) [
      | inl still ↦ inl (eqb-true _ _ still)
      | inr on ↦
          let parts = or_parts _ _ (sym (cond-false _ _ _ on) ∙ h) in
          let f = find n ws (most_entries n.variables) (log_place n.variables) head_place parts.1 in
          inr (eqb-true _ _ (not-false _ parts.0), f.es, record { some = f.some; sound = f.sound; stands = f.stands })
    ]

pub astray_tells : AstrayTells
astray_tells n ws = (not_astray n ws, is_astray n ws)

-- two chains at one place are the same
same_at : (ws : List ℕ) (e : ℕ) (es fs : List Store) → Stands ws e es → Stands ws e fs → 0 < length es → 0 < length fs → es ≡ fs
same_at ws e [] fs h k some more = absurd (omega arith)
same_at ws e (s ∷ ss) [] h k some more = absurd (omega arith)
same_at ws e (s ∷ []) (t ∷ []) h k some more = ap (λ x. x ∷ []) (sym (stands_parts ws e s [] h).entry ∙ (stands_parts ws e t [] k).entry)
same_at ws e (s ∷ []) (t ∷ (u ∷ ts)) h k some more = let last = (stands_parts ws e s [] h).next in let on = (stands_parts ws e t (u ∷ ts) k).next in absurd (omega arith)
same_at ws e (s ∷ (r ∷ ss)) (t ∷ []) h k some more = let on = (stands_parts ws e s (r ∷ ss) h).next in let last = (stands_parts ws e t [] k).next in absurd (omega arith)
same_at ws e (s ∷ (r ∷ ss)) (t ∷ (u ∷ ts)) h k some more =
    let one = stands_parts ws e s (r ∷ ss) h in
    let other = stands_parts ws e t (u ∷ ts) k in
    ap₂ (λ x xs. x ∷ xs) (sym one.entry ∙ other.entry) (same_at ws (e + 3) (r ∷ ss) (u ∷ ts) one.behind other.behind (omega arith) (omega arith))

pub chains_same : (n : Scope) (ws : List ℕ) (es fs : List Store) → HasChain n ws es → HasChain n ws fs → es ≡ fs
chains_same n ws es fs h k = same_at ws (log_place n.variables) es fs h.stands k.stands h.some k.some
