-- What holds of the plain machine over any number of visits.
use Rattle.std.specs.Prelude.{◌≡◌, ℕ, ◌+◌, ◌<◌, min, true, List, [], length, slice_index_or}
use Rattle.program.specs.declared.statement.Index.{Index}
use Rattle.program.specs.declared.statement.Next.{Next}
use Rattle.program.specs.Sound.{Source, sound}
use Rattle.plain.specs.Plain.{Plain, last_number, visits, page, plain_page}

-- the rows of a list, one a visit
abbrev pub row_at : List (List ℕ) → ℕ → List ℕ
row_at rows k = slice_index_or rows k []

-- The machine after the first i rows, of which none beyond the last visit number has a visit.
abbrev pub after_rows : Source → (ℕ → List ℕ) → ℕ → Plain
after_rows p rows i = visits p rows (min i last_number)

-- As long as the machine has not stopped, its visit number is the number of visits.
abbrev pub NumbersVisits : Type 0
NumbersVisits = (p : Source) (rows : ℕ → List ℕ) (n : ℕ) (t : Index 16) → (visits p rows n).next ≡ Next.Task t → (visits p rows n).number ≡ n

-- one of T tasks, or nothing after a stop
abbrev pub Known : ℕ → Next → Type 0
Known T (Next.Task t) = t.number < T
Known T Next.Stopped = Unit {0}

-- Of a well-formed program, what comes next is always one of its tasks, or nothing after a stop.
abbrev pub NextKnown : Type 0
NextKnown = (p : Source) → sound p ≡ true → (rows : ℕ → List ℕ) (n : ℕ) → Known (length p.tasks) (visits p rows n).next

-- The first n visits look at the first n rows alone.
abbrev pub RowsBelow : Type 0
RowsBelow = (p : Source) (rows others : ℕ → List ℕ) (n : ℕ) → ((k : ℕ) → k < n → rows k ≡ others k) → plain_page p rows n ≡ plain_page p others n

-- Two pages that are equal have one visit number.
abbrev pub PageTellsNumber : Type 0
PageTellsNumber = (m o : Plain) → page m ≡ page o → m.number ≡ o.number

-- The variables are as many as the program declares, so that a page has 12 words more.
abbrev pub PageLength : Type 0
PageLength = (p : Source) (rows : ℕ → List ℕ) (n : ℕ) → length (plain_page p rows n) ≡ 12 + length p.firsts
