-- What the words of a cabinet's memory say.
use Rattle.std.specs.Prelude.{ℕ, ◌+◌, ◌*◌, ◌%◌, cond, List, length, take, drop, nat_lt, slice_index}
use Rattle.std.proofs.Common.{lit<, mod-lt}
use Rattle.program.specs.declared.statement.Next.{Next}
use Rattle.program.specs.Sound.{Source}
use Rattle.layout.specs.Places.{length_place, next_place, number_high_place, number_low_place, record_place, variable_place}

-- the visit number
abbrev pub number_in : List ℕ → ℕ
number_in ws = slice_index ws number_low_place + 65536 * slice_index ws number_high_place

-- the next task, by its number; any other word is a stop
unfoldable pub next_at : ℕ → Next
next_at w = cond (nat_lt w 16) (Next.Task (record { number = w % 16; known = mod-lt w (lit< tt) })) Next.Stopped

abbrev pub next_in : List ℕ → Next
next_in ws = next_at (slice_index ws next_place)

-- the record of the last visit that was committed
abbrev pub record_in : List ℕ → List ℕ
record_in ws = take (slice_index ws length_place) (drop record_place ws)

-- the variables
abbrev pub variables_in : Source → List ℕ → List ℕ
variables_in p ws = take (length p.firsts) (drop (variable_place 0) ws)
