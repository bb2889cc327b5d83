-- Which texts can be read: those that are short enough and have no byte that is not allowed.
use Rattle.std.specs.Prelude.{ℕ, ◌+◌, cond, not, List, length, take, Option, Some, None, nat_lt, ◌==◌}
use Rattle.std.specs.List.{count_by, position}
use Rattle.std.specs.Option.{option_map}
use Rattle.text.specs.Bytes.{is_allowed}
use Rattle.text.specs.declared.refusal.Place.{Place}
use Rattle.text.specs.declared.refusal.Refusal.{Refusal}

-- a text of more than 16,384 bytes is too long
abbrev pub length_offence : List ℕ → Option Refusal
length_offence text = cond (nat_lt 16384 (length text)) (Some Refusal.TooLong) None

-- Where the byte at a place p stands: its line is one more than the count of bytes 10 before it.
abbrev pub byte_place : List ℕ → ℕ → Place
byte_place text p = record { line = 1 + count_by (λ b. b == 10) (take p text); byte = p }

-- the first byte that is not allowed
abbrev pub byte_offence : List ℕ → Option Refusal
byte_offence text = option_map (λ p. Refusal.Byte (byte_place text p)) (position (λ b. not (is_allowed b)) text)
