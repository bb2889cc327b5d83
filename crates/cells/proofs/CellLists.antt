-- Lists that differ at most in the three cells of one word, and the words that they hold.
use Rattle.std.proofs.Common.{◌≡◌, ℕ, ◌+◌, ◌*◌, ◌/◌, ◌<◌, eqb, ◌≢◌, List, [], ◌∷◌, length, get_or, set, sym, refl, ap, ◌∙◌, subst, ⊎_elim, arith, length-set}
use Rattle.std.proofs.lemmas.List.FromFn.{get_or-map-range_with_len}
use Rattle.std.proofs.lemmas.Bool.{cases_eq}
use Rattle.std.proofs.lemmas.List.{get_or-set_same, get_or-set_other, set-get_or, ext_get_or}
use Rattle.cells.specs.declared.triple.Triple.{Triple}
use Rattle.cells.specs.Triple.{A, B, C, Cell, To, put, reads}
use Rattle.cells.specs.Cells.{place_of, triple_at, word_of, words_of}
use Rattle.cells.specs.Members.{length_words, within_three}
use Rattle.cells.specs.Laws.{puts}

-- a store to a cell of word p alters that cell of its triple
pub triple_put : (j : Cell) (words : List ℕ) (p x : ℕ) → 3 * p + 2 < length words → triple_at (set words (place_of j p) x) p ≡ put j x (triple_at words p)
triple_put A words p x h =
    let a = get_or-set_same words (3 * p) x 0 (omega arith) in
    let b = get_or-set_other words (3 * p) (3 * p + 1) x 0 (omega arith) in
    let c = get_or-set_other words (3 * p) (3 * p + 2) x 0 (omega arith) in
    cc
triple_put B words p x h =
    let a = get_or-set_other words (3 * p + 1) (3 * p) x 0 (omega arith) in
    let b = get_or-set_same words (3 * p + 1) x 0 (omega arith) in
    let c = get_or-set_other words (3 * p + 1) (3 * p + 2) x 0 (omega arith) in
    cc
triple_put C words p x h =
    let a = get_or-set_other words (3 * p + 2) (3 * p) x 0 (omega arith) in
    let b = get_or-set_other words (3 * p + 2) (3 * p + 1) x 0 (omega arith) in
    let c = get_or-set_same words (3 * p + 2) x 0 (omega arith) in
    cc

-- the cells of word p stand within three places of 3p
pub record SameBut (p : ℕ) (words words' : List ℕ) : Type 0 where
  pub long : length words' ≡ length words
  pub off : (k : ℕ) → k ≢ p → triple_at words' k ≡ triple_at words k

pub same_self : (p : ℕ) (words : List ℕ) → SameBut p words words
same_self p words = record { long = refl; off = λ k _. refl }

pub same_then : (p : ℕ) (words words' words'' : List ℕ) → SameBut p words words' → SameBut p words' words'' → SameBut p words words''
same_then p words words' words'' s s' = record { long = s'.long ∙ s.long; off = λ k ne. s'.off k ne ∙ s.off k ne }

pub same_set : (j : Cell) (p x : ℕ) (words : List ℕ) → SameBut p words (set words (place_of j p) x)
same_set j p x words =
    let h = within_three j p in
    record {
      long = length-set words (place_of j p) x;
      off = λ k ne.
          let a = get_or-set_other words (place_of j p) (3 * k) x 0 (omega arith) in
          let b = get_or-set_other words (place_of j p) (3 * k + 1) x 0 (omega arith) in
          let c = get_or-set_other words (place_of j p) (3 * k + 2) x 0 (omega arith) in
          cc;
    }

-- the list after such stores
abbrev pub sets : List ℕ → ℕ → List (To ℕ) → List ℕ
sets words p [] = words
sets words p (s ∷ rest) = sets (set words (place_of s.cell p) s.unit) p rest

pub same_sets : (ss : List (To ℕ)) (words : List ℕ) (p : ℕ) → SameBut p words (sets words p ss)
same_sets [] words p = same_self p words
same_sets (s ∷ rest) words p = same_then p _ _ _ (same_set s.cell p s.unit words) (same_sets rest (set words (place_of s.cell p) s.unit) p)

pub triple_puts : (ss : List (To ℕ)) (words : List ℕ) (p : ℕ) → 3 * p + 2 < length words → triple_at (sets words p ss) p ≡ puts (triple_at words p) ss
triple_puts [] words p h = refl
triple_puts (s ∷ rest) words p h =
    let n = length-set words (place_of s.cell p) s.unit in
    triple_puts rest (set words (place_of s.cell p) s.unit) p (omega arith)
    ∙ ap (λ (t : Triple ℕ). puts t rest) (triple_put s.cell words p s.unit h)

pub get_or_words : (words : List ℕ) (k : ℕ) → k < length words / 3 → get_or (words_of words) k 0 ≡ word_of words k
get_or_words words k h = get_or-map-range_with_len (word_of words) 0 (length words / 3) k k 0 h (omega arith)

module _ (p : ℕ) (words words' : List ℕ) (s : SameBut p words words') where
  off_word : (k : ℕ) → k ≢ p → word_of words' k ≡ word_of words k
  off_word k ne = ap (reads eqb) (s.off k ne)

  -- the other words are as they were
  pub words_set : (x : ℕ) → set (words_of words') p x ≡ set (words_of words) p x
  words_set x =
      let n' = length_words words' in
      let n = length_words words in
      let m' = length-set (words_of words') p x in
      let m = length-set (words_of words) p x in
      let lens : length (set (words_of words') p x) ≡ length (set (words_of words) p x) = m' ∙ n' ∙ ap (λ k. k / 3) s.long ∙ sym n ∙ sym m in
      ext_get_or 0 (set (words_of words') p x) (set (words_of words) p x) lens
      (λ k h.
      ⊎_elim
      (λ e. let h' : p < length (words_of words') = omega arith in let h'' : p < length (words_of words) = omega arith in rw e (get_or-set_same (words_of words') p x 0 h' ∙ sym (get_or-set_same (words_of words) p x 0 h'')))
      (λ ne.
      let k' : k < length words' / 3 = omega arith in
      let k'' : k < length words / 3 = omega arith in
      get_or-set_other (words_of words') p k x 0 ne ∙ get_or_words words' k k' ∙ off_word k ne ∙ sym (get_or_words words k k'') ∙ sym (get_or-set_other (words_of words) p k x 0 ne))
      (cases_eq k p))

  -- word p is new
  pub words_new : (x : ℕ) → p < length words / 3 → word_of words' p ≡ x → words_of words' ≡ set (words_of words) p x
  words_new x h e =
      let h' : p < length words' / 3 = subst (λ n. p < n / 3) (sym s.long) h in
      sym (set-get_or (words_of words') p 0) ∙ ap (set (words_of words') p) (get_or_words words' p h' ∙ e) ∙ words_set x
