-- The entries of a commit: they fit their program, and are few.
use Rattle.std.proofs.Common.{◌≡◌, ℕ, zero, suc, ◌+◌, ◌/◌, ◌%◌, ◌<◌, ◌≤◌, Bool, true, leb, List, [], ◌∷◌, ◌++◌, drop, length, map, refl, ap, inl, inr, arith, length-append, slice_index}
use Rattle.std.specs.List.{filter, range_with_len}
use Rattle.std.proofs.lemmas.Bool.{and_from, and_parts, cases_Bool, leb-true, le-leb, lt-ltb, ne_eqb, not_from_false, or_left}
use Rattle.std.proofs.lemmas.List.{length-map}
use Rattle.std.proofs.lemmas.List.FromFn.{length-range_with_len}
use Rattle.std.proofs.lemmas.List.Sums.{count_by-le-length, length-filter}
use Rattle.program.specs.declared.check.Scope.{Scope}
use Rattle.program.specs.declared.statement.Next.{Next}
use Rattle.program.specs.declared.statement.Statement.{Statement}
use Rattle.program.specs.Paths.{emitted_on, paths}
use Rattle.program.specs.Runs.{Run, next_word, taken}
use Rattle.program.specs.Sound.{Source, scope_of, sound, task_of}
use Rattle.program.proofs.Programs.{pass_in}
use Rattle.laws.proofs.Paths.{takes_a_path}
use Rattle.facts.specs.Sets.{has, variables}
use Rattle.layout.specs.declared.store.Store.{Store}
use Rattle.layout.specs.Chains.{chain_sound, chain_words, entry_sound, next_known, word_fits}
use Rattle.layout.specs.Places.{head_place, length_place, next_place, number_high_place, number_low_place, page_end, record_place, variable_place}
use Rattle.layout.proofs.Chains.{entry_parts}
use Rattle.calls.specs.Lawful.{attempt_fits, stage_fits}
use Rattle.calls.specs.Running.{entries, following, set_entries, stores_from}
use Rattle.calls.specs.Steps.{log_of}
use Rattle.calls.specs.Stages.{Attempt, Stage}
use Rattle.calls.proofs.Fits.{FitsParts, fits_parts}

abbrev entry : ℕ → ℕ → Store
entry place word = record { place = place; word = word }

-- Chains of sound entries

module _ (n : Scope) where
  entry_from : (before place word : ℕ) → before < place → place < page_end n.variables → word_fits n (entry place word) ≡ true → entry_sound n before (entry place word) ≡ true
  entry_from before place word low high fits = and_from _ _ (and_from _ _ (lt-ltb before place low) (lt-ltb place (page_end n.variables) high)) fits

  -- any word may stand behind the record's length
  any_word : (place word : ℕ) → length_place < place → word_fits n (entry place word) ≡ true
  any_word place word l = and_from _ _ (or_left _ _ (not_from_false _ (ne_eqb place next_place (λ e. omega arith)))) (or_left _ _ (not_from_false _ (ne_eqb place length_place (λ e. omega arith))))

  -- what is sound behind a place is sound behind an earlier one
  pub chain_behind : (before later : ℕ) (es : List Store) → before ≤ later → chain_sound n later es ≡ true → chain_sound n before es ≡ true
  unfolding chain_sound
  chain_behind before later [] l h = refl
  chain_behind before later (s ∷ more) l h =
      let parts = and_parts _ _ h in
      let at = entry_parts n later s parts.0 in
      let low = at.0 in
      and_from _ _ (entry_from before s.place s.word (omega arith) at.1 at.2) parts.1

  -- the record's words, before a chain of variables
  words_sound : (before place : ℕ) (words : List ℕ) (more : List Store)
      → before < place → length_place < place → place + length words ≤ variable_place 0
      → chain_sound n 12 more ≡ true → chain_sound n before (stores_from place words ++ more) ≡ true
  unfolding chain_sound
  words_sound before place [] more low behind room h = chain_behind before 12 more (omega arith) h
  words_sound before place (w ∷ words) more low behind room h =
      and_from _ _ (entry_from before place w low (omega arith) (any_word place w behind)) (words_sound place (place + 1) words more (omega arith) (omega arith) (omega arith) h)

  -- the variables of a set, each below the number of all
  variables_sound : (test : ℕ → Bool) (word : ℕ → ℕ) (before first count : ℕ)
      → before < variable_place first → ((v : ℕ) → v < first + count → test v ≡ true → v < n.variables)
      → chain_sound n before (map (λ v. entry (variable_place v) (word v)) (filter test (range_with_len first count))) ≡ true
  unfolding chain_sound
  variables_sound test word before first zero low known = refl
  variables_sound test word before first (suc count) low known =
      elim (cases_Bool (test first)) [
        | inl in_set ↦
            let inside = known first (omega arith) in_set in
            rw in_set
            (and_from _ _ (entry_from before (variable_place first) (word first) low (omega arith) (any_word (variable_place first) (word first) (omega arith)))
            (variables_sound test word (variable_place first) (first + 1) count (omega arith) (λ v l. known v (omega arith))))
        | inr out ↦ rw out (variables_sound test word before (first + 1) count (omega arith) (λ v l. known v (omega arith)))
      ]

-- The entries of an attempt

-- a record that has room for more has at most eight words
pub record_few : (p : Source) (a : Attempt) → FitsParts p a → length a.emitted ≤ 8
record_few p a f =
    let σ : Run = record { inputs = []; variables = []; locals = []; emitted = []; chosen = Next.Stopped } in
    let rest : List Statement = drop a.at (task_of p a.task) in
    let π : List Statement = taken 0 rest σ in
    let low = leb-true (length a.emitted + emitted_on π) 8 (pass_in (λ π. leb (length a.emitted + emitted_on π) 8) (paths 0 rest) π (takes_a_path 0 rest σ) f.room) in
    omega arith

module _ (n : Scope) (number : ℕ) (next : Next) (emitted : List ℕ) where
  -- the entries before those of variables
  head_sound : (more : List Store) → length emitted ≤ 8 → next_known n.tasks (next_word next) ≡ true → chain_sound n 12 more ≡ true
      → chain_sound n head_place
      (entry number_low_place (following number % 65536) ∷ entry number_high_place (following number / 65536) ∷ entry next_place (next_word next)
      ∷ entry length_place (length emitted) ∷ stores_from record_place emitted ++ more)
      ≡ true
  unfolding chain_sound
  head_sound more few known h =
      and_from _ _ (entry_from n head_place number_low_place (following number % 65536) (omega arith) (omega arith) refl)
      (and_from _ _ (entry_from n number_low_place number_high_place (following number / 65536) (omega arith) (omega arith) refl)
      (and_from _ _ (entry_from n number_high_place next_place (next_word next) (omega arith) (omega arith) (and_from _ _ known refl))
      (and_from _ _ (entry_from n next_place length_place (length emitted) (omega arith) (omega arith) (le-leb (length emitted) 8 few))
      (words_sound n length_place record_place emitted more (omega arith) (omega arith) (omega arith) h))))

-- a chain of which nothing is stored yet
logging_fits : (p : Source) (es : List Store) → 0 < length es → chain_sound (scope_of p) head_place es ≡ true → stage_fits p (Stage.Logging es 0) ≡ true
logging_fits p es some h = and_from _ _ (and_from _ _ (lt-ltb 0 (length es) some) h) (le-leb 0 (length (chain_words (log_of p) es)) (omega arith))

pub entries_fit : (p : Source) (a : Attempt) (number : ℕ) (next : Next) → sound p ≡ true → attempt_fits p a ≡ true → next_known (length p.tasks) (next_word next) ≡ true → stage_fits p (Stage.Logging (entries number next a) 0) ≡ true
unfolding set_entries
entries_fit p a number next h fits known =
    let f = fits_parts p a fits in
    logging_fits p (entries number next a) (omega arith)
    (head_sound (scope_of p) number next a.emitted _ (record_few p a f) known
    (variables_sound (scope_of p) (has a.set) (slice_index a.copies) 12 0 48 (omega arith) (λ v l m. f.set v l m)))

pub length-stores_from : (place : ℕ) (words : List ℕ) → length (stores_from place words) ≡ length words
length-stores_from place [] = refl
length-stores_from place (w ∷ words) = ap suc (length-stores_from (place + 1) words)

pub few_variables : (test : ℕ → Bool) (f : ℕ → Store) (n : ℕ) → length (map f (filter test (range_with_len 0 n))) ≤ n
few_variables test f n =
    let vs : List ℕ = range_with_len 0 n in
    let most = count_by-le-length test vs in
    omega (arith, length-map (filter test vs) f, length-filter test vs, length-range_with_len 0 n)

-- four entries, the record, and the variables
few_entries : (words : List ℕ) (more : List Store) → length words ≤ 8 → length more ≤ 48 → suc (suc (suc (suc (length (stores_from record_place words ++ more))))) ≤ 60
few_entries words more few least = omega (arith, length-append (stores_from record_place words) more, length-stores_from record_place words)

pub entries_few : (p : Source) (a : Attempt) (number : ℕ) (next : Next) → attempt_fits p a ≡ true → length (entries number next a) ≤ 60
unfolding set_entries
entries_few p a number next fits =
    few_entries a.emitted (map (λ v. entry (variable_place v) (slice_index a.copies v)) (filter (has a.set) variables)) (record_few p a (fits_parts p a fits)) (few_variables (has a.set) _ 48)
