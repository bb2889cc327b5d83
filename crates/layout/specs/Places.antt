-- Where a program's words stand in memory. V is the number of its variables.
use Rattle.std.specs.Prelude.{ℕ, ◌+◌, ◌*◌}

-- the log's commit word: 0, or the log's place while a commit is under way
abbrev pub head_place : ℕ
head_place = 0

-- the visit number's two words
abbrev pub number_low_place : ℕ
number_low_place = 1

abbrev pub number_high_place : ℕ
number_high_place = 2

-- the next task, or 16 after a stop
abbrev pub next_place : ℕ
next_place = 3

-- the record's length, and the first of its eight words
abbrev pub length_place : ℕ
length_place = 4

abbrev pub record_place : ℕ
record_place = 5

abbrev pub variable_place : ℕ → ℕ
variable_place v = 13 + v

-- the page ends before this place
abbrev pub page_end : ℕ → ℕ
page_end V = 13 + V

-- the log, where the first entry stands
abbrev pub log_place : ℕ → ℕ
log_place V = page_end V

-- how many words a memory must have
abbrev pub least_length : ℕ → ℕ
least_length V = 49 + 4 * V
