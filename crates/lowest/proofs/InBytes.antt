-- The words that lie in bytes: how many there are, each of them, and all of them once one is put.
use Rattle.std.proofs.Common.{◌≡◌, ℕ, ◌+◌, ◌*◌, ◌/◌, ◌%◌, ◌^◌, ◌<◌, ◌≤◌, true, ◌≢◌, List, [], ◌∷◌, length, get_or, set, refl, sym, ap, ◌∙◌, subst, ⊎_elim, arith, length-set}
use Rattle.std.proofs.lemmas.List.FromFn.{length-map-range_with_len, get_or-map-range_with_len}
use Rattle.std.proofs.lemmas.List.{ext_get_or, get_or_past, get_or-set_other, get_or-set_same, set_past}
use Rattle.std.proofs.lemmas.Bool.{cases_eq, cond_above, cond_below, eqb-true}
use Rattle.lowest.specs.Image.{EachByte, WordsTellBytes, none_over, put_in, with_word, word_at, words_in}

module _ (bytes : List ℕ) where
  pub length_words : length (words_in bytes) ≡ length bytes / 2
  length_words = length-map-range_with_len (word_at bytes) 0 (length bytes / 2)

  pub get_or_words : (p : ℕ) → p < length bytes / 2 → get_or (words_in bytes) p 0 ≡ word_at bytes p
  get_or_words p h = get_or-map-range_with_len (word_at bytes) 0 (length bytes / 2) p p 0 h (omega arith)

  pub past_words : (p : ℕ) → length bytes / 2 ≤ p → get_or (words_in bytes) p 0 ≡ 0
  past_words p h = let n = length_words in get_or_past (words_in bytes) p 0 (omega arith)

  pub put_past_words : (p w : ℕ) → length bytes / 2 ≤ p → set (words_in bytes) p w ≡ words_in bytes
  put_past_words p w h = let n = length_words in set_past (words_in bytes) p w (omega arith)

module _ (bytes : List ℕ) (p w : ℕ) (h : p < length bytes / 2) where
  -- with the low part put
  abbrev low_put : List ℕ
  low_put = set bytes (2 * p) (w % 256)

  length_with : length (with_word bytes p w) ≡ length bytes
  length_with = simp length-set

  word_same : word_at (with_word bytes p w) p ≡ w
  word_same =
      let n = length-set bytes (2 * p) (w % 256) in
      let stays = get_or-set_other low_put (2 * p + 1) (2 * p) (w / 256) 0 (omega arith) in
      let low = get_or-set_same bytes (2 * p) (w % 256) 0 (omega arith) in
      let high = get_or-set_same low_put (2 * p + 1) (w / 256) 0 (omega arith) in
      omega arith

  -- the bytes of the other words stay
  byte_other : (i : ℕ) → i ≢ 2 * p → i ≢ 2 * p + 1 → get_or (with_word bytes p w) i 0 ≡ get_or bytes i 0
  byte_other i low high = get_or-set_other low_put (2 * p + 1) i (w / 256) 0 high ∙ get_or-set_other bytes (2 * p) i (w % 256) 0 low

  word_other : (k : ℕ) → k ≢ p → word_at (with_word bytes p w) k ≡ word_at bytes k
  word_other k ne =
      let low = byte_other (2 * k) (omega arith) (omega arith) in
      let high = byte_other (2 * k + 1) (omega arith) (omega arith) in
      omega arith

  pub words_with : words_in (with_word bytes p w) ≡ set (words_in bytes) p w
  words_with =
      let n = length_words (with_word bytes p w) in
      let m = length_words bytes in
      let l = length-set (words_in bytes) p w in
      let q = length_with in
      let inside : p < length (words_in bytes) = omega arith in
      ext_get_or 0 (words_in (with_word bytes p w)) (set (words_in bytes) p w) (omega arith)
      (λ k k_in.
      get_or_words (with_word bytes p w) k (omega arith)
      ∙ ⊎_elim
      (λ e. rw e (word_same ∙ sym (get_or-set_same (words_in bytes) p w 0 inside)))
      (λ ne. word_other k ne ∙ sym (get_or_words bytes k (omega arith)) ∙ sym (get_or-set_other (words_in bytes) p k w 0 ne))
      (cases_eq k p))

-- a word's two bytes put, low byte first
module _ (bytes two : List ℕ) (p w : ℕ) (h : p < length bytes / 2) (fits : w < 2 ^ 16) (e : two ≡ (w % 256) ∷ (w / 256 % 256) ∷ []) where
  -- the bytes once both are put
  abbrev both_put : List ℕ
  both_put = set (set bytes (2 * p) (get_or two 0 0)) (2 * p + 1) (get_or two 1 0)

  with_both : both_put ≡ with_word bytes p w
  with_both = let high : w / 256 % 256 ≡ w / 256 = omega arith in rw (e, high) refl

  pub words_put : words_in both_put ≡ set (words_in bytes) p w
  words_put = ap words_in with_both ∙ words_with bytes p w h

  pub bytes_put : both_put ≡ put_in bytes p w
  bytes_put = with_both ∙ cond_below p (length bytes / 2) (with_word bytes p w) bytes h

pub put_past_bytes : (bytes : List ℕ) (p w : ℕ) → length bytes / 2 ≤ p → bytes ≡ put_in bytes p w
put_past_bytes bytes p w h = cond_above p (length bytes / 2) (with_word bytes p w) bytes bytes h refl

-- words that are equal have equal bytes
module _ (xs ys : List ℕ) (even : none_over xs ≡ true) (also : none_over ys ≡ true) (small : EachByte xs) (each : EachByte ys) (same : words_in xs ≡ words_in ys) where
  same_length : length xs ≡ length ys
  same_length =
      let n = length_words xs in
      let m = length_words ys in
      let l : length (words_in xs) ≡ length (words_in ys) = ap length same in
      let x = eqb-true (length xs % 2) 0 even in
      let y = eqb-true (length ys % 2) 0 also in
      omega arith

  same_word : (k : ℕ) → k < length xs / 2 → word_at xs k ≡ word_at ys k
  same_word k h =
      let l = same_length in
      sym (get_or_words xs k h) ∙ ap (λ (ws : List ℕ). get_or ws k 0) same ∙ get_or_words ys k (omega arith)

  same_byte : (i : ℕ) → i < length xs → get_or xs i 0 ≡ get_or ys i 0
  same_byte i h =
      let x = eqb-true (length xs % 2) 0 even in
      let k : ℕ = i / 2 in
      let w = same_word (i / 2) (omega arith) in
      let a = small (2 * (i / 2)) in
      let b = each (2 * (i / 2)) in
      ⊎_elim
      (λ low. subst (λ j. get_or xs j 0 ≡ get_or ys j 0) (sym low) (omega arith))
      (λ no_low. let high : i ≡ 2 * (i / 2) + 1 = omega arith in subst (λ j. get_or xs j 0 ≡ get_or ys j 0) (sym high) (omega arith))
      (cases_eq i (2 * (i / 2)))

  bytes_same : xs ≡ ys
  bytes_same = ext_get_or 0 xs ys same_length same_byte

pub words_tell_bytes : WordsTellBytes
words_tell_bytes xs ys even also small each same = bytes_same xs ys even also small each same
