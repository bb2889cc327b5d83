-- The tokens of a line and the lines of a text, with their places.
use Rattle.std.specs.Prelude.{ℕ, ◌+◌, Bool, true, false, not, cond, ◌&&◌, ◌==◌, List, [], ◌∷◌, take}
use Rattle.std.specs.List.{filter, prefix_len}
use Rattle.text.specs.Bytes.{is_letter, is_digit, is_ink, in_line}
use Rattle.text.specs.Refusals.{nowhere}
use Rattle.text.specs.declared.refusal.Place.{Place}

-- A token by its first byte: a letter, a digit, a `#` or another; with its bytes and its place.
pub data Tok : Type 0 where
  word : List ℕ → Place → Tok
  number : List ℕ → Place → Tok
  comment : List ℕ → Place → Tok
  sign : List ℕ → Place → Tok

abbrev pub text_of : Tok → List ℕ
text_of (word text p) = text
text_of (number text p) = text
text_of (comment text p) = text
text_of (sign text p) = text

abbrev pub place_of : Tok → Place
place_of (word text p) = p
place_of (number text p) = p
place_of (comment text p) = p
place_of (sign text p) = p

abbrev pub token_of : List ℕ → Place → Tok
token_of [] p = sign [] p
token_of (b ∷ bs) p = cond (is_letter b) (word (b ∷ bs) p) (cond (is_digit b) (number (b ∷ bs) p) (cond (b == 35) (comment (b ∷ bs) p) (sign (b ∷ bs) p)))

-- the longest front whose bytes pass
abbrev pub front : (ℕ → Bool) → List ℕ → List ℕ
front test bs = take (prefix_len test bs) bs

-- The tokens of a line from the byte at a place on: one begins wherever ink follows none, and goes on as far as ink does.
unfoldable pub tokens_from : Bool → ℕ → ℕ → List ℕ → List Tok
tokens_from inside line at [] = []
tokens_from inside line at (b ∷ bs) =
    elim (is_ink b && not inside) [
      | true ↦ token_of (front is_ink (b ∷ bs)) (record { line = line; byte = at }) ∷ tokens_from (is_ink b) line (at + 1) bs
      | false ↦ tokens_from (is_ink b) line (at + 1) bs
    ]

-- The lines of a text from the byte at a place on, each as its tokens: one begins at the text's start and behind each byte 10.
unfoldable pub lines_from : Bool → ℕ → ℕ → List ℕ → List (List Tok)
lines_from inside line at [] = []
lines_from inside line at (b ∷ bs) =
    elim inside [
      | true ↦ lines_from (in_line b) (cond (in_line b) line (line + 1)) (at + 1) bs
      | false ↦ tokens_from false line at (front in_line (b ∷ bs)) ∷ lines_from (in_line b) (cond (in_line b) line (line + 1)) (at + 1) bs
    ]

abbrev pub is_comment : Tok → Bool
is_comment (word text p) = false
is_comment (number text p) = false
is_comment (comment text p) = true
is_comment (sign text p) = false

-- a line without tokens, or whose first begins with `#`
abbrev pub is_skipped : List Tok → Bool
is_skipped [] = true
is_skipped (t ∷ ts) = is_comment t

-- the lines that are not skipped, from a place on
abbrev pub lines_at : Place → List ℕ → List (List Tok)
lines_at p bs = filter (λ line. not (is_skipped line)) (lines_from false p.line p.byte bs)

-- those of a whole text
abbrev pub lines_of : List ℕ → List (List Tok)
lines_of text = lines_at (record { line = 1; byte = 0 }) text

-- where a line's first token stands
abbrev pub first_place : List Tok → Place
first_place [] = nowhere
first_place (t ∷ ts) = place_of t
