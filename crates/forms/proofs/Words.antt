-- A name or a number by its first byte and the rest.
use Rattle.std.proofs.Common.{◌≡◌, ℕ, ◌<◌, ◌-◌, not, ◌&&◌, ◌||◌, leb, List, [], ◌∷◌, length, get_or, take, drop, arith}
use Rattle.std.proofs.lemmas.List.{take_rest}
use Rattle.std.specs.List.{list_all}
use Rattle.std.specs.Option.{is_some}
use Rattle.text.specs.Bytes.{is_letter, is_digit}
use Rattle.forms.specs.Words.{input_of, is_name}

-- all but the first byte, as code takes it
abbrev pub rest : List ℕ → List ℕ
rest bs = take (length bs - 1) (drop 1 bs)

pub name_by_first : (bs : List ℕ) → 0 < length bs → is_name bs ≡ ((is_letter (get_or bs 0 0) && leb (length (rest bs)) 11) && (list_all (λ c. is_letter c || is_digit c) (rest bs) && not (is_some (input_of bs))))
name_by_first [] h = absurd (omega arith)
name_by_first (b ∷ bs) h = rw (take_rest (b ∷ bs) 1)

pub digits_by_first : (bs : List ℕ) → 0 < length bs → list_all is_digit bs ≡ (is_digit (get_or bs 0 0) && list_all is_digit (rest bs))
digits_by_first [] h = absurd (omega arith)
digits_by_first (b ∷ bs) h = rw (take_rest (b ∷ bs) 1)
