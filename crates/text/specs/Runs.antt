-- What the tokens and lines of a text are, said of the text as a whole.
use Rattle.std.specs.Prelude.{◌≡◌, ◌≢◌, ℕ, ◌+◌, ◌<◌, false, List, [], ◌∷◌, ◌++◌, length, ◌==◌, slice_index_or, EachIndex}
use Rattle.std.specs.List.{count_by, flat_map, All, AllPass, AllPairs, Any, Contains}
use Rattle.text.specs.Bytes.{is_ink}
use Rattle.text.specs.Tokens.{Tok, token_of, place_of}

-- A longest run of ink in the text, as a token: its line is one more than the count of bytes 10 before it.
pub record IsTokenOf (text : List ℕ) (t : Tok) : Type 0 where
  pub before : List ℕ
  pub run : List ℕ
  pub behind : List ℕ
  pub parts : text ≡ before ++ run ++ behind
  pub some : run ≢ []
  pub ink : AllPass is_ink run
  pub none_before : (front : List ℕ) (b : ℕ) → before ≡ front ++ b ∷ [] → is_ink b ≡ false
  pub none_behind : (b : ℕ) (back : List ℕ) → behind ≡ b ∷ back → is_ink b ≡ false
  pub token : t ≡ token_of run (record { line = 1 + count_by (λ b. b == 10) before; byte = length before })

-- The lines have the text's tokens and no others, each in the line whose number it tells, and all in the order of the text.
-- So two tokens are in one line exactly when they tell one line number.
pub record AreLines (text : List ℕ) (lines : List (List Tok)) : Type 0 where
  -- what is in a line is a token of the text
  pub tokens : All (All (IsTokenOf text)) lines
  -- each token of the text is in a line
  pub whole : (t : Tok) → IsTokenOf text t → Any (λ line. Contains line t) lines
  -- what is in line k, from 0, has the line number k + 1
  pub numbered : EachIndex lines (λ k. All (λ t. (place_of t).line ≡ k + 1) (slice_index_or lines k []))
  -- byte places rise along all lines
  pub in_order : AllPairs (λ s t. (place_of s).byte < (place_of t).byte) (flat_map (λ line. line) lines)
