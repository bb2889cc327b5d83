-- The entries of a commit, one after the other.
use Rattle.std.proofs.Common.{◌≡◌, ℕ, zero, suc, ◌+◌, ◌*◌, ◌<◌, ◌≤◌, true, ◌&&◌, cond, List, [], ◌∷◌, ◌++◌, take, get_or, length, map, Some, nat_lt, ap, ◌∙◌, inl, inr, arith, length-append, length-take, append_assoc, sym, slice_index}
use Rattle.std.specs.List.{filter, range_with_len}
use Rattle.std.proofs.lemmas.Bool.{and_from, and_parts, cases_Bool, cond-false, cond-true, le-leb, le-ltb, lt-ltb}
use Rattle.std.proofs.lemmas.List.{append-nil, map-append, take_all}
use Rattle.std.proofs.lemmas.List.Elements.{filter-append}
use Rattle.words.specs.Lists.{pushed}
use Rattle.words.proofs.Kept.{pushed_room}
use Rattle.program.specs.Sound.{Source, scope_of}
use Rattle.facts.specs.declared.set.VariableSet.{VariableSet}
use Rattle.facts.specs.Sets.{has}
use Rattle.layout.specs.declared.store.Store.{Store}
use Rattle.layout.specs.Places.{head_place, log_place, record_place, variable_place}
use Rattle.layout.specs.Chains.{chain_sound, chain_words}
use Rattle.layout.proofs.Chains.{length_chain_words}
use Rattle.calls.specs.declared.due.Due.{Due}
use Rattle.calls.specs.Lawful.{stage_fits}
use Rattle.calls.specs.Steps.{log_of, logging_turn, turn}
use Rattle.calls.specs.Running.{set_entries, stores_from}
use Rattle.calls.specs.Stages as value
use Rattle.cabinet.specs.Logs.{Adds}
use Rattle.calls.proofs.Entries.{few_variables, length-stores_from}

-- the stores of one word more
stores_more : (place i at : ℕ) (words : List ℕ) → i < length words → at ≡ place + i
    → stores_from place (take (i + 1) words) ≡ stores_from place (take i words) ++ record { place = at; word = get_or words i 0 } ∷ []
stores_more place i at [] l e = absurd (omega arith)
stores_more place zero at (w ∷ words) l e = let same : place ≡ at = omega arith in ap (λ p. record { place = p; word = w } ∷ []) same
stores_more place (suc i) at (w ∷ words) l e =
    let on = stores_more (place + 1) i at words (omega arith) (omega arith) in
    let more : suc i + 1 ≡ suc (i + 1) = omega arith in
    rw more (ap (λ ss. record { place = place; word = w } ∷ ss) on)

-- Behind the entries of `start`, those of the first i words of a record were put.
pub record LogsWords (start : List Store) (words : List ℕ) (i : ℕ) (so_far : List Store) : Type 0 where
  pub same : length start ≤ 52 → so_far ≡ start ++ stores_from record_place (take i words)

-- one word more
pub logs_word : (start so_far after : List Store) (words : List ℕ) (i at word : ℕ)
    → LogsWords start words i so_far → after ≡ pushed 60 so_far (record { place = at; word = word })
    → length words ≤ 8 → i < length words → at ≡ record_place + i → word ≡ get_or words i 0
    → LogsWords start words (i + 1) after
logs_word start so_far after words i at word h e short l here same = record {
  same =
      λ room.
      let was = h.same room in
      let few : length (start ++ stores_from record_place (take i words)) < 60 =
      omega (arith, length-append start (stores_from record_place (take i words)), length-stores_from record_place (take i words), length-take i words) in
      let next = stores_more record_place i at words l here in
      e ∙ ap (λ es. pushed 60 es (record { place = at; word = word })) was ∙ pushed_room 60 _ _ few ∙ append_assoc start (stores_from record_place (take i words)) _ ∙ ap (λ (es : List Store). start ++ es) (ap (λ w. stores_from record_place (take i words) ++ record { place = at; word = w } ∷ []) same ∙ sym next);
}

-- all words
pub logs_words : (start so_far : List Store) (words : List ℕ) (i : ℕ) → LogsWords start words i so_far → length words ≤ i → Adds 8 (stores_from record_place words) start so_far
logs_words start so_far words i h l = record { behind = λ room. h.same (omega arith) ∙ ap (λ ws. start ++ stores_from record_place ws) (take_all i words l) }

-- the entries of the variables below n that are in a set
pub logged : VariableSet → List ℕ → ℕ → List Store
logged set copies n = map (λ v. record { place = variable_place v; word = slice_index copies v }) (filter (has set) (range_with_len 0 n))

few_logged : (set : VariableSet) (copies : List ℕ) (n : ℕ) → length (logged set copies n) ≤ n
unfolding logged
few_logged set copies n = few_variables (has set) _ n

-- one number more
range_more : (first n : ℕ) → range_with_len first (n + 1) ≡ range_with_len first n ++ (first + n) ∷ []
range_more first zero = let same : first ≡ first + 0 = omega arith in ap (λ m. m ∷ []) same
range_more first (suc n) =
    let more : suc n + 1 ≡ suc (n + 1) = omega arith in
    let last : first + 1 + n ≡ first + suc n = omega arith in
    rw more (ap (λ ms. first ∷ ms) (range_more (first + 1) n ∙ ap (λ m. range_with_len (first + 1) n ++ m ∷ []) last))

-- one variable more
logged_more : (set : VariableSet) (copies : List ℕ) (n : ℕ) → logged set copies (n + 1) ≡ logged set copies n ++ map (λ v. record { place = variable_place v; word = slice_index copies v }) (cond (has set n) (n ∷ []) [])
unfolding logged
logged_more set copies n =
    let f : ℕ → Store = λ v. record { place = variable_place v; word = slice_index copies v } in
    let last : 0 + n ≡ n = omega arith in
    ap (λ ns. map f (filter (has set) ns)) (range_more 0 n ∙ ap (λ m. range_with_len 0 n ++ m ∷ []) last)
    ∙ ap (map f) (filter-append (has set) (range_with_len 0 n) (n ∷ []))
    ∙ map-append f (filter (has set) (range_with_len 0 n)) (cond (has set n) (n ∷ []) [])

-- Behind the entries of `start`, those of the variables below n that are in a set were put.
pub record LogsVariables (start : List Store) (set : VariableSet) (copies : List ℕ) (n : ℕ) (so_far : List Store) : Type 0 where
  pub same : length start ≤ 12 → so_far ≡ start ++ logged set copies n

-- none yet
pub logs_no_variable : (start : List Store) (set : VariableSet) (copies : List ℕ) → LogsVariables start set copies 0 start
unfolding logged
logs_no_variable start set copies = record { same = λ room. sym (append-nil start) }

-- one variable more
pub logs_variable : (start so_far after : List Store) (set : VariableSet) (copies : List ℕ) (n : ℕ)
    → LogsVariables start set copies n so_far
    → after ≡ cond (has set n) (pushed 60 so_far (record { place = variable_place n; word = slice_index copies n })) so_far
    → n < 48 → LogsVariables start set copies (n + 1) after
logs_variable start so_far after set copies n h e l = record {
  same =
      λ room.
      let s : Store = record { place = variable_place n; word = slice_index copies n } in
      let was = h.same room in
      let few : length (start ++ logged set copies n) < 60 = omega (arith, length-append start (logged set copies n), few_logged set copies n) in
      elim (cases_Bool (has set n)) [
        | inl b ↦
            let next : logged set copies (n + 1) ≡ logged set copies n ++ s ∷ [] = rw b at (logged_more set copies n) in
            let put : after ≡ pushed 60 so_far s = rw b at e in
            put ∙ ap (λ es. pushed 60 es s) was ∙ pushed_room 60 (start ++ logged set copies n) s few ∙ append_assoc start (logged set copies n) (s ∷ []) ∙ ap (λ (es : List Store). start ++ es) (sym next)
        | inr b ↦
            let next : logged set copies (n + 1) ≡ logged set copies n ++ [] = rw b at (logged_more set copies n) in
            let put : after ≡ so_far = rw b at e in
            put ∙ was ∙ ap (λ (es : List Store). start ++ es) (sym (next ∙ append-nil (logged set copies n)))
      ];
}

-- all variables
pub logs_variables : (start so_far : List Store) (set : VariableSet) (copies : List ℕ) (n : ℕ)
    → LogsVariables start set copies n so_far → 48 ≤ n → n ≤ 48
    → Adds 48 (set_entries set copies) start so_far
unfolding logged set_entries
logs_variables start so_far set copies n h most least = record {
  behind = λ room. let all : n ≡ 48 = omega arith in h.same (omega arith) ∙ ap (λ k. start ++ logged set copies k) all;
}

-- four entries, the record, and the variables
pub log_whole : (s t u v : Store) (start written last : List Store) (words : List ℕ) (more : List Store)
    → Adds 8 (stores_from record_place words) start written → Adds 48 more written last
    → start ≡ s ∷ t ∷ u ∷ v ∷ [] → length words ≤ 8
    → last ≡ s ∷ t ∷ u ∷ v ∷ (stores_from record_place words ++ more)
log_whole s t u v start written last words more w l h few =
    let written_is = w.behind (omega (arith, ap (λ (es : List Store). length es) h)) in
    let room : length written + 48 ≤ 60 =
    omega (arith, ap (λ (es : List Store). length es) h, ap (λ (es : List Store). length es) written_is, length-append start (stores_from record_place words), length-stores_from record_place words) in
    l.behind room ∙ ap (λ (es : List Store). es ++ more) (written_is ∙ ap (λ (es : List Store). es ++ stores_from record_place words) h)

-- WHAT IS DUE

-- a word of the chain
pub word_due : (p : Source) (es : List Store) (V log k word : ℕ) → length p.firsts ≡ V → log ≡ log_place V → k < 3 * length es → word ≡ slice_index (chain_words log es) k
    → turn (Some (record { place = log + k; word = word })) (value.Stage.Logging es (k + 1)) ≡ logging_turn p es k
word_due p es V log k word many at l same =
    let here : log ≡ log_of p = at ∙ ap log_place (sym many) in
    let inside = lt-ltb k (length (chain_words (log_of p) es)) (omega (arith, length_chain_words (log_of p) es)) in
    ap (λ w. turn (Some (record { place = log + k; word = w })) (value.Stage.Logging es (k + 1))) same
    ∙ ap (λ e. turn (Some (record { place = e + k; word = slice_index (chain_words e es) k })) (value.Stage.Logging es (k + 1))) here
    ∙ sym (cond-true _ _ _ inside)

-- the head, when they are all stored
pub head_due : (p : Source) (es : List Store) (V head log k : ℕ) → length p.firsts ≡ V → head ≡ head_place → log ≡ log_place V → 3 * length es ≤ k
    → turn (Some (record { place = head; word = log })) (value.Stage.Applying (Due.Entry log)) ≡ logging_turn p es k
head_due p es V head log k many first at l =
    let here : log ≡ log_of p = at ∙ ap log_place (sym many) in
    let past = le-ltb k (length (chain_words (log_of p) es)) (omega (arith, length_chain_words (log_of p) es)) in
    ap (λ h. turn (Some (record { place = h; word = log })) (value.Stage.Applying (Due.Entry log))) first
    ∙ ap (λ e. turn (Some (record { place = head_place; word = e })) (value.Stage.Applying (Due.Entry e))) here
    ∙ sym (cond-false _ _ _ past)

-- one word more is stored
pub stored_more : (p : Source) (es : List Store) (k : ℕ) → k < 3 * length es → stage_fits p (value.Stage.Logging es k) ≡ true → stage_fits p (value.Stage.Logging es (k + 1)) ≡ true
stored_more p es k l h =
    let parts = and_parts (nat_lt 0 (length es) && chain_sound (scope_of p) head_place es) _ h in
    and_from _ _ parts.0 (le-leb (k + 1) (length (chain_words (log_of p) es)) (omega (arith, length_chain_words (log_of p) es)))
