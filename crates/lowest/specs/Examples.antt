-- What the definitions of the lowest memories come to on examples.
use Rattle.std.specs.Prelude.{◌≡◌, ℕ, true, false, List, [], ◌∷◌, replicate, Some, None, Ok, Err, Option}
use Rattle.memory.specs.declared.doubt.Doubt.{Doubt}
use Rattle.memory.specs.declared.fault.Fault.TheVariants as fault
use Rattle.memory.specs.Value.{Kind, Value, read_of, write_answer, written}
use Rattle.lowest.specs.Image.{none_over, put_in, with_word, words_in}
use Rattle.lowest.specs.Lowest.{held_after, left_in_image, left_in_words, lowest_kind, lowest_value, makeable}

-- three words, in a list and in bytes
abbrev pub three : List ℕ
three = 4 ∷ 513 ∷ 65535 ∷ []

abbrev pub three_in_bytes : List ℕ
three_in_bytes = 4 ∷ 0 ∷ 1 ∷ 2 ∷ 255 ∷ 255 ∷ []

-- plain words, in the buffer named 0
abbrev pub plain_kind : Kind
plain_kind = lowest_kind true 0

-- lit over the three words
abbrev pub lit_with : ℕ → Value
lit_with charge = lowest_value plain_kind three charge true None

-- place 1 in doubt between 513 and 9
abbrev pub in_doubt : Option Doubt
in_doubt = Some (record { place = 1; old = 513; new = 9 })

-- dark over what a cut left there
abbrev pub dark_over : List ℕ → Value
dark_over held = lowest_value plain_kind held 0 false in_doubt

pub record ExamplesHold : Type 0 where
  -- the low byte is first, and a byte over is no part of a word
  pub in_bytes : words_in three_in_bytes ≡ three
  pub byte_over : words_in (1 ∷ 2 ∷ 255 ∷ []) ≡ 513 ∷ []
  pub put_in_bytes : with_word three_in_bytes 1 258 ≡ 4 ∷ 0 ∷ 2 ∷ 1 ∷ 255 ∷ 255 ∷ []
  pub put_and_read : words_in (with_word three_in_bytes 1 258) ≡ 4 ∷ 258 ∷ 65535 ∷ []
  -- a byte over stays, beside a word and where no word is
  pub put_beside : put_in (1 ∷ 2 ∷ 255 ∷ []) 0 258 ≡ 2 ∷ 1 ∷ 255 ∷ []
  pub put_past : put_in (1 ∷ 2 ∷ 255 ∷ []) 1 258 ≡ 1 ∷ 2 ∷ 255 ∷ []
  -- a cut leaves the new word in plain words if the scrap is odd, and the scrap in an image
  pub odd_scrap : left_in_words 7 513 9 ≡ 9
  pub even_scrap : left_in_words 6 513 9 ≡ 513
  pub in_image : left_in_image 7 513 9 ≡ 7
  -- what a write of 9 to place 1 leaves in the buffer
  pub held_when_paid : held_after left_in_words three true 1 6 1 9 ≡ 4 ∷ 9 ∷ 65535 ∷ []
  pub held_when_cut : held_after left_in_words three true 0 6 1 9 ≡ three
  pub held_when_cut_odd : held_after left_in_words three true 0 7 1 9 ≡ 4 ∷ 9 ∷ 65535 ∷ []
  pub held_when_torn : held_after left_in_image three true 0 7 1 9 ≡ 4 ∷ 7 ∷ 65535 ∷ []
  pub held_when_dark : held_after left_in_image three false 1 7 1 9 ≡ three
  pub held_when_outside : held_after left_in_image three true 0 7 3 9 ≡ three
  -- at most 32,768 words, and no byte over
  pub longest : makeable (replicate 32768 0) true ≡ true
  pub too_long : makeable (replicate 32769 0) true ≡ false
  pub none : makeable [] true ≡ true
  pub even_count : makeable (words_in three_in_bytes) (none_over three_in_bytes) ≡ true
  pub odd_count : makeable (words_in (1 ∷ 2 ∷ 255 ∷ [])) (none_over (1 ∷ 2 ∷ 255 ∷ [])) ≡ false
  -- reads
  pub read_inside : read_of (lit_with 0) 2 ≡ Ok 65535
  pub read_outside : read_of (lit_with 0) 3 ≡ Err fault.Outside
  pub read_dark : read_of (dark_over three) 3 ≡ Err fault.Dark
  -- writes: stored, and cut
  pub answer_stored : write_answer (lit_with 1) 1 ≡ Ok tt
  pub after_stored : written (lit_with 1) 1 9 ≡ lowest_value plain_kind (4 ∷ 9 ∷ 65535 ∷ []) 0 true None
  pub answer_cut : write_answer (lit_with 0) 1 ≡ Err (fault.Cut (record { place = 1; layers = 0 }))
  pub after_cut : written (lit_with 0) 1 9 ≡ dark_over three
  pub after_cut_odd : written (lit_with 0) 1 9 ≡ dark_over (4 ∷ 9 ∷ 65535 ∷ [])
  -- in doubt the old word is shown; lit again over the new one, the new one is read
  pub doubt_shows_old : (dark_over (4 ∷ 9 ∷ 65535 ∷ [])).words ≡ three
  pub lit_again : read_of (lowest_value plain_kind (4 ∷ 9 ∷ 65535 ∷ []) 5 true None) 1 ≡ Ok 9
  -- outside before cut, dark before outside
  pub answer_outside : write_answer (lit_with 0) 3 ≡ Err fault.Outside
  pub after_outside : written (lit_with 0) 3 9 ≡ lit_with 0
  pub answer_dark : write_answer (dark_over three) 3 ≡ Err fault.Dark
  pub after_dark : written (dark_over three) 1 9 ≡ dark_over three
