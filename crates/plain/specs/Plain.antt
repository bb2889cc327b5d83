-- The plain lending machine, which never loses power, and its page.
use Rattle.std.specs.Prelude.{ℕ, zero, suc, ◌+◌, ◌/◌, ◌%◌, List, [], ◌∷◌, ◌++◌, length, take, replicate}
use Rattle.std.proofs.Common.{lit<}
use Rattle.program.specs.declared.statement.Next.{Next}
use Rattle.program.specs.Runs.{Run, exec, next_word}
use Rattle.program.specs.Sound.{Source, task_of}

-- the visit number, what comes next, the last visit's record, and the variables
pub record Plain : Type 0 where
  pub number : ℕ
  pub next : Next
  pub emitted : List ℕ
  pub variables : List ℕ

-- the last visit number that there is, the largest of 32 bits
abbrev pub last_number : ℕ
last_number = 4294967295

-- task 0 comes first
abbrev pub first_next : Next
first_next = Next.Task (record { number = 0; known = lit< tt })

-- before the first visit
abbrev pub at_first : Source → Plain
at_first p = record { number = 0; next = first_next; emitted = []; variables = p.firsts }

-- what a visit begins with: the locals 0, the record empty
abbrev pub begun : List ℕ → List ℕ → Run
begun row variables = record { inputs = row; variables = variables; locals = replicate 8 0; emitted = []; chosen = Next.Stopped }

-- what it leaves when its task has run
abbrev pub left_by : ℕ → Run → Plain
left_by number end = record { number = number + 1; next = end.chosen; emitted = end.emitted; variables = end.variables }

-- one visit; none follows a stop
abbrev pub after_visit : Source → List ℕ → Plain → Plain
after_visit p row m = elim m.next [
  | Next.Task t ↦ left_by m.number (exec 0 (task_of p t.number) (begun row m.variables))
  | Next.Stopped ↦ m
]

-- after n visits, the k-th with the row rows k
abbrev pub visits : Source → (ℕ → List ℕ) → ℕ → Plain
visits p rows zero = at_first p
visits p rows (suc n) = after_visit p (rows n) (visits p rows n)

-- eight words for a record, 0 beyond its length
abbrev pub eight : List ℕ → List ℕ
eight emitted = take 8 (emitted ++ replicate 8 0)

-- visit number low and high, next task, record length, and eight record words
abbrev pub head_words : Plain → List ℕ
head_words m = m.number % 65536 ∷ m.number / 65536 ∷ next_word m.next ∷ length m.emitted ∷ eight m.emitted

-- The page: these twelve words, and the variables.
abbrev pub page : Plain → List ℕ
page m = head_words m ++ m.variables

-- the page after n visits
abbrev pub plain_page : Source → (ℕ → List ℕ) → ℕ → List ℕ
plain_page p rows n = page (visits p rows n)
