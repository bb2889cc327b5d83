-- The bytes of a task text.
use Rattle.std.specs.Prelude.{ℕ, Bool, not, ◌&&◌, ◌||◌, ◌==◌, nat_le}

abbrev pub within : ℕ → ℕ → ℕ → Bool
within low high b = nat_le low b && nat_le b high

-- a to z
abbrev pub is_letter : ℕ → Bool
is_letter b = within 97 122 b

-- 0 to 9
abbrev pub is_digit : ℕ → Bool
is_digit b = within 48 57 b

-- part of a token
abbrev pub is_ink : ℕ → Bool
is_ink b = within 33 126 b

-- part of a line, which a byte 10 ends
abbrev pub in_line : ℕ → Bool
in_line b = not (b == 10)

-- what a text may have
abbrev pub is_allowed : ℕ → Bool
is_allowed b = b == 10 || within 32 126 b
