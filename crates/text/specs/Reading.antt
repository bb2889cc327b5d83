-- What is left of a text, line after line.
use Rattle.std.specs.Prelude.{◌≡◌, false, List, ◌∷◌, take}
use Rattle.text.specs.Tokens.{Tok, is_skipped, lines_at}
use Rattle.text.specs.declared.reader.Lines.{Lines}

-- the lines that are left, without those that are skipped
abbrev pub lines_left : Lines → List (List Tok)
lines_left lines = lines_at lines.place lines.rest.now

-- Of the lines that were left, this was the next, of which no more than seven tokens are held; it is not skipped.
pub record IsNext (before after : List (List Tok)) (held : List Tok) : Type 0 where
  pub tokens : List Tok
  pub next : before ≡ tokens ∷ after
  pub first_seven : held ≡ take 7 tokens
  pub not_skipped : is_skipped tokens ≡ false
