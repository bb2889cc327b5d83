-- What is read of an input.
use Rattle.std.specs.Prelude.{◌≡◌, ℕ, List, take, None}
use Rattle.rounds.specs.Rounds.{text_offence}

-- A text is read of an input: its first 16,385 bytes. They are enough, since the input is refused as they are, and they are all of it
-- where it is accepted.
pub record IsReadOf (input text : List ℕ) : Type 0 where
  pub front : text ≡ take 16385 input
  pub told : text_offence text ≡ text_offence input
  pub whole : text_offence input ≡ None → text ≡ input
