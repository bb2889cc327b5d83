-- What is printed.
use Rattle.std.specs.Prelude.{ℕ, ◌+◌, Bool, true, false, List, [], ◌∷◌, ◌++◌, map, replicate, codes, cond, decimal, length, nat_lt, slice_index_or, flat_map, zip, Option, Some, None}
use Rattle.text.specs.Bytes.{within}
use Rattle.program.specs.declared.statement.Statement.{Statement}
use Rattle.program.specs.Sound.{Source}
use Rattle.facts.specs.declared.costs.TaskFacts.{TaskFacts}
use Rattle.facts.specs.Bounds.{most_visit_stores, most_visit_steps}
use Rattle.facts.specs.Most.{largest}
use Rattle.facts.specs.Sets.{has}
use Rattle.grammar.specs.Names.{Declared}
use Rattle.rules.specs.Known.{task_facts}
use Rattle.text.specs.declared.refusal.Told.{Told}
use Rattle.fit.specs.declared.line.Marked.{Marked}

-- A byte as it is shown: one that is no sign of plain text as a `?`.
abbrev pub shown_byte : ℕ → ℕ
shown_byte b = cond (within 32 126 b) b 63

abbrev pub shown : List ℕ → List ℕ
shown bytes = map shown_byte bytes

-- a line as it is shown, and under it a mark behind so many blanks
abbrev pub marked_line : List ℕ → ℕ → List ℕ
marked_line line column = shown line ++ 10 ∷ replicate column 32 ++ codes "^"

-- The names of those variables that pass a test, in the order of their declarations, each behind a blank. The first has the number v.
unfoldable pub names_in : (ℕ → Bool) → ℕ → List (List ℕ) → List ℕ
names_in test v [] = []
names_in test v (name ∷ names) =
    elim (test v) [
      | true ↦ 32 ∷ shown name ++ names_in test (v + 1) names
      | false ↦ names_in test (v + 1) names
    ]

-- what is known of a task, in a rule with these variables
abbrev pub task_line : List ℕ → List (List ℕ) → TaskFacts → List ℕ
task_line name variables f =
    codes "task " ++ shown name ++ codes " logged" ++ names_in (has f.logged) 0 variables ++ codes " emits " ++ decimal f.emits ++ codes " direct " ++ decimal f.direct

-- a line for each task, with its name
unfoldable pub task_lines : List (List ℕ) → List (List ℕ) → List (List Statement) → List ℕ
task_lines variables names tasks = flat_map (λ p. task_line p.0 variables (task_facts p.1) ++ 10 ∷ []) (zip names tasks)

-- the line of task t under a name, if there is such a task
unfoldable pub line_if : List ℕ → List (List ℕ) → List (List Statement) → ℕ → List ℕ
line_if name variables tasks t = cond (nat_lt t (length tasks)) (task_line name variables (task_facts (slice_index_or tasks t [])) ++ 10 ∷ []) []

-- D and S
abbrev pub bounds_line : ℕ → ℕ → List ℕ
bounds_line stores steps = codes "bounds " ++ decimal stores ++ codes " " ++ decimal steps

-- What is told of a rule that is accepted, with the names that it declares.
abbrev pub accepted_text : Source → Declared → List ℕ
accepted_text p d =
    codes "accepted\n" ++ task_lines d.variables d.tasks p.tasks ++ bounds_line (largest most_visit_stores p.tasks) (largest most_visit_steps p.tasks)

-- the number of a refusal, its line and its byte
abbrev pub headline : Told → List ℕ
headline told = codes "refused " ++ decimal told.number ++ codes " " ++ decimal told.line ++ codes " " ++ decimal told.byte

-- a line with its mark, if there is one
abbrev pub mark_text : Option Marked → List ℕ
mark_text (Some m) = marked_line m.line.now m.column ++ 10 ∷ []
mark_text None = []

-- What is told of a rule that is refused.
abbrev pub refused_text : Told → Option Marked → List ℕ → List ℕ
refused_text told m sentence = headline told ++ 10 ∷ mark_text m ++ sentence
