-- The rounds over bytes, and then those over lines.
use Rattle.std.proofs.Common.{◌≡◌, refl, ap, ◌∙◌, ℕ, List, length, Option, Some, None}
use Rattle.std.specs.Option.{option_or}
use Rattle.text.specs.declared.refusal.Refusal.{Refusal}
use Rattle.text.specs.Readable.{byte_offence, length_offence}
use Rattle.text.specs.Tokens.{lines_of}
use Rattle.grammar.specs.Reading.{first_of}
use Rattle.rounds.specs.Rounds.{rounds, text_offence}

or_assoc : {A : Type 0} (a b c : Option A) → option_or a (option_or b c) ≡ option_or (option_or a b) c
or_assoc None b c = refl
or_assoc (Some x) b c = refl

pub bytes_then_lines : (text : List ℕ) → text_offence text ≡ option_or (option_or (length_offence text) (byte_offence text)) (first_of (λ offence. offence) (rounds (length text) (lines_of text)))
unfolding text_offence
bytes_then_lines text = or_assoc (length_offence text) (byte_offence text) (first_of (λ offence. offence) (rounds (length text) (lines_of text)))

pub unreadable : (text : List ℕ) (r : Refusal) → option_or (length_offence text) (byte_offence text) ≡ Some r → text_offence text ≡ Some r
unreadable text r e = bytes_then_lines text ∙ ap (λ o. option_or o (first_of (λ offence. offence) (rounds (length text) (lines_of text)))) e

pub readable : (text : List ℕ) → option_or (length_offence text) (byte_offence text) ≡ None → text_offence text ≡ first_of (λ offence. offence) (rounds (length text) (lines_of text))
readable text e = bytes_then_lines text ∙ ap (λ o. option_or o (first_of (λ offence. offence) (rounds (length text) (lines_of text)))) e
