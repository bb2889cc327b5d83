-- Names, numbers and inputs, by their bytes.
use Rattle.std.specs.Prelude.{ℕ, ◌+◌, ◌-◌, ◌*◌, Bool, false, not, cond, ◌&&◌, ◌||◌, ◌==◌, nat_le, List, [], ◌∷◌, length, Option, Some, None}
use Rattle.std.specs.List.{list_all, fold}
use Rattle.std.specs.Option.{is_some}
use Rattle.text.specs.Bytes.{is_letter, is_digit, within}

-- which of the inputs in0 to in7 it is
abbrev pub input_of : List ℕ → Option ℕ
input_of [] = None
input_of (i ∷ []) = None
input_of (i ∷ n ∷ []) = None
input_of (i ∷ n ∷ d ∷ []) = cond (i == 105 && (n == 110 && within 48 55 d)) (Some (d - 48)) None
input_of (i ∷ n ∷ d ∷ b ∷ bs) = None

-- 1 to 12 letters and digits, a letter first, and no input
abbrev pub is_name : List ℕ → Bool
is_name [] = false
is_name (b ∷ bs) = (is_letter b && nat_le (length bs) 11) && (list_all (λ c. is_letter c || is_digit c) bs && not (is_some (input_of (b ∷ bs))))

-- the number that digits write
abbrev pub value : List ℕ → ℕ
value ds = fold (λ n d. n * 10 + (d - 48)) 0 ds

-- 1 to 5 digits, at most 65,535
abbrev pub number_of : List ℕ → Option ℕ
number_of ds = cond ((within 1 5 (length ds) && list_all is_digit ds) && nat_le (value ds) 65535) (Some (value ds)) None

-- a number from 1 to 15
abbrev pub reach_of : List ℕ → Option ℕ
reach_of ds = cond (is_some (number_of ds) && within 1 15 (value ds)) (Some (value ds)) None
