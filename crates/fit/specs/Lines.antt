-- The line of a text in which a byte stands.
use Rattle.std.specs.Prelude.{◌≡◌, ℕ, ◌+◌, ◌≤◌, List, [], ◌∷◌, ◌++◌, length, ◌==◌}
use Rattle.std.specs.List.{count_by, AllPass}
use Rattle.text.specs.Bytes.{in_line}
use Rattle.text.specs.Readable.{byte_place}

-- This is a whole line of the text, and the byte at the place stands in it behind so many others.
pub record IsLineAt (text : List ℕ) (place : ℕ) (line : List ℕ) (column : ℕ) : Type 0 where
  pub before : List ℕ
  pub behind : List ℕ
  pub parts : text ≡ before ++ line ++ behind
  -- A byte 10 ends the line before it and the line itself, if the text does not begin or end there.
  pub begins : (front : List ℕ) (b : ℕ) → before ≡ front ++ b ∷ [] → b ≡ 10
  pub ends : (b : ℕ) (back : List ℕ) → behind ≡ b ∷ back → b ≡ 10
  pub inside : AllPass in_line line
  pub stands : place ≡ length before + column
  pub within : column ≤ length line
  -- It has the number that is told for the byte.
  pub number : (byte_place text place).line ≡ 1 + count_by (λ b. b == 10) before
