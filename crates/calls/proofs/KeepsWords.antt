-- What a store does to the words of a lawful cabinet.
use Rattle.std.proofs.Common.{◌≡◌, ◌≢◌, ℕ, ◌+◌, ◌<◌, ◌≤◌, Bool, true, not, ◌||◌, ◌⊎◌, eqb, leb, List, length, get_or, set, sym, ap, ◌∙◌, inl, inr, subst, arith}
use Rattle.std.proofs.lemmas.Bool.{and_from, and_parts, cases_eq, eq-eqb, leb-true, ne_eqb, or_left}
use Rattle.std.proofs.lemmas.List.{get_or-set_other, get_or-set_same}
use Rattle.program.specs.declared.check.Scope.{Scope}
use Rattle.program.specs.Sound.{Source, scope_of}
use Rattle.layout.specs.declared.store.Store.{Store}
use Rattle.layout.specs.Chains.{HasChain, StandFrom, next_known, word_fits}
use Rattle.layout.specs.Laws.{HasLog}
use Rattle.layout.specs.Places.{length_place, log_place, next_place}
use Rattle.calls.specs.Lawful.{WellFormed}

-- the test of a word holds where the word belongs
passed : (b t : Bool) → b ≡ true → (not b || t) ≡ true → t ≡ true
passed b t e h = sym (ap (λ b. not b || t) e) ∙ h

module _ (ws : List ℕ) (q w : ℕ) (l : q < length ws) where
  -- what holds of the word stored, and of the word at r before, holds of the word at r
  at_set : (P : ℕ → Type 0) (r : ℕ) → (q ≡ r → P w) → P (get_or ws r 0) → P (get_or (set ws q w) r 0)
  at_set P r new old =
      elim (cases_eq q r) [
        | inl e ↦ subst (λ r. P (get_or (set ws q w) r 0)) e (subst P (sym (get_or-set_same ws q w 0 l)) (new e))
        | inr ne ↦ subst P (sym (get_or-set_other ws q r w 0 (λ e. ne (sym e)))) old
      ]

  -- A word that may stand where it is stored leaves the words well formed, if the log is.
  pub well_formed_set : (p : Source) → word_fits (scope_of p) (record { place = q; word = w }) ≡ true → WellFormed p ws → HasLog (scope_of p) (set ws q w) → WellFormed p (set ws q w)
  well_formed_set p fits f log =
      let tests = and_parts (not (eqb q next_place) || next_known (length p.tasks) w) (not (eqb q length_place) || leb w 8) fits in
      record {
        next = at_set (λ x. next_known (length p.tasks) x ≡ true) next_place (λ e. passed (eqb q next_place) _ (eq-eqb q next_place e) tests.0) f.next;
        few = at_set (λ x. x ≤ 8) length_place (λ e. leb-true w 8 (passed (eqb q length_place) _ (eq-eqb q length_place e) tests.1)) f.few;
        log = log;
      }

  -- words that stand apart from the place of the store still do
  pub stands_still : (e n : ℕ) (xs : List ℕ) → (q < e) ⊎ (e + n ≤ q) → StandFrom ws e xs n → StandFrom (set ws q w) e xs n
  stands_still e n xs (inl low) h j k = get_or-set_other ws q (e + j) w 0 (λ z. omega arith) ∙ h j k
  stands_still e n xs (inr high) h j k = get_or-set_other ws q (e + j) w 0 (λ z. omega arith) ∙ h j k

  -- so does a chain, behind a store to the page
  pub chain_still : (n : Scope) (es : List Store) → q < log_place n.variables → HasChain n ws es → HasChain n (set ws q w) es
  chain_still n es low c = record { some = c.some; sound = c.sound; stands = stands_still (log_place n.variables) _ _ (inl low) c.stands }

-- a word more of the words
pub stands_more : (ws : List ℕ) (e n : ℕ) (xs : List ℕ) → e + n < length ws → StandFrom ws e xs n → StandFrom (set ws (e + n) (get_or xs n 0)) e xs (n + 1)
stands_more ws e n xs l h j k =
    elim (cases_eq j n) [
      | inl same ↦ subst (λ j. get_or (set ws (e + n) (get_or xs n 0)) (e + j) 0 ≡ get_or xs j 0) (sym same) (get_or-set_same ws (e + n) (get_or xs n 0) 0 l)
      | inr other ↦ get_or-set_other ws (e + n) (e + j) (get_or xs n 0) 0 (λ z. other (omega arith)) ∙ h j (omega arith)
    ]

-- a place other than those of the next task and of the record's length takes any word
pub fits_apart : (n : Scope) (q w : ℕ) → q ≢ next_place → q ≢ length_place → word_fits n (record { place = q; word = w }) ≡ true
fits_apart n q w a b = and_from _ _ (or_left _ _ (ap not (ne_eqb q next_place a))) (or_left _ _ (ap not (ne_eqb q length_place b)))
