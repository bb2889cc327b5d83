-- The plain machine over any number of visits.
use Rattle.std.proofs.Common.{◌≡◌, ℕ, zero, suc, ◌+◌, ◌/◌, ◌%◌, ◌<◌, true, false, cond, ◌&&◌, ltb, List, [], ◌∷◌, length, get_or, refl, ap, ◌∙◌, ap₂, arith}
use Rattle.std.specs.List.{list_all}
use Rattle.std.proofs.lemmas.Bool.{and_parts, ltb-true}
use Rattle.program.specs.declared.statement.Index.{Index}
use Rattle.program.specs.declared.statement.Next.{Next}
use Rattle.program.specs.declared.statement.Statement.{Statement}
use Rattle.program.specs.declared.statement.Target.{Target}
use Rattle.program.specs.Shapes.{operands, targets, choices}
use Rattle.program.specs.Runs.{Run, holds, after, passes, exec}
use Rattle.program.specs.Sound.{scope_of, Source, operand_declared, target_declared, declared, placed, all_placed, task_of, sound}
use Rattle.program.specs.declared.check.Scope.{Scope}
use Rattle.program.proofs.Programs.{placed_at, some_task}
use Rattle.laws.proofs.Kept.{keeps_unwritten}
use Rattle.plain.specs.Plain.{Plain, begun, after_visit, visits, page}
use Rattle.plain.specs.Series.{NumbersVisits, Known, NextKnown, RowsBelow, PageTellsNumber, PageLength}
use Rattle.plain.proofs.Pages.{page-length}

-- one visit more
number_after : (p : Source) (row : List ℕ) (number : ℕ) (next : Next) (emitted variables : List ℕ) (n : ℕ)
    → ((t : Index 16) → next ≡ Next.Task t → number ≡ n) → (t : Index 16)
    → (after_visit p row (record { number = number; next = next; emitted = emitted; variables = variables })).next ≡ Next.Task t
    → (after_visit p row (record { number = number; next = next; emitted = emitted; variables = variables })).number ≡ n + 1
number_after p row number (Next.Task u) emitted variables n before t goes = let e = before u refl in omega arith
number_after p row number Next.Stopped emitted variables n before t goes = cc

pub numbers_visits : NumbersVisits
numbers_visits p rows zero t goes = refl
numbers_visits p rows (suc n) t goes =
    let m : Plain = visits p rows n in
    let on = number_after p (rows n) m.number m.next m.emitted m.variables n (numbers_visits p rows n) t goes in
    omega arith

same_visits : (p : Source) (rows others : ℕ → List ℕ) (n : ℕ) → ((k : ℕ) → k < n → rows k ≡ others k) → visits p rows n ≡ visits p others n
same_visits p rows others zero h = refl
same_visits p rows others (suc n) h = ap₂ (after_visit p) (h n (omega arith)) (same_visits p rows others n (λ k l. h k (omega arith)))

pub rows_below : RowsBelow
rows_below p rows others n h = ap page (same_visits p rows others n h)

pub page_tells_number : PageTellsNumber
page_tells_number m o e =
    let low : m.number % 65536 ≡ o.number % 65536 = ap (λ xs. get_or xs 0 0) e in
    let high : m.number / 65536 ≡ o.number / 65536 = ap (λ xs. get_or xs 1 0) e in
    omega arith

variables_after : (p : Source) (row : List ℕ) (number : ℕ) (next : Next) (emitted variables : List ℕ)
    → length (after_visit p row (record { number = number; next = next; emitted = emitted; variables = variables })).variables ≡ length variables
variables_after p row number (Next.Task t) emitted variables = (keeps_unwritten 0 (task_of p t.number) (begun row variables)).size
variables_after p row number Next.Stopped emitted variables = refl

variables_kept : (p : Source) (rows : ℕ → List ℕ) (n : ℕ) → length (visits p rows n).variables ≡ length p.firsts
variables_kept p rows zero = refl
variables_kept p rows (suc n) =
    let m : Plain = visits p rows n in
    variables_after p (rows n) m.number m.next m.emitted m.variables ∙ variables_kept p rows n

pub page_is_long : PageLength
page_is_long p rows n = page-length (visits p rows n) ∙ ap (λ k. 12 + k) (variables_kept p rows n)

-- What comes next, among the tasks that are declared.
module _ (scope : Scope) where
  known_after : (s : Statement) (σ : Run) → list_all (λ t. ltb t.number scope.tasks) (choices s) ≡ true → Known scope.tasks σ.chosen → Known scope.tasks (after s σ).chosen
  known_after Statement.Stop σ h c = tt
  known_after (Statement.Set (Target.Variable v) a o b) σ h c = c
  known_after (Statement.Set (Target.Local l) a o b) σ h c = c
  known_after (Statement.Emit a) σ h c = c
  known_after (Statement.Skip k t) σ h c = c
  known_after (Statement.Next t) σ h c = ltb-true t.number scope.tasks (and_parts (ltb t.number scope.tasks) true h).0
  known_after (Statement.Choose x t u) σ h c =
      let p = and_parts (ltb t.number scope.tasks) (ltb u.number scope.tasks && true) h in
      elim (holds σ x) as (λ b. Known scope.tasks (cond b (Next.Task t) (Next.Task u))) [
        | true ↦ ltb-true t.number scope.tasks p.0
        | false ↦ ltb-true u.number scope.tasks (and_parts (ltb u.number scope.tasks) true p.1).0
      ]

  -- the tasks that a statement names are there
  choices_known : (s : Statement) → declared scope s ≡ true → list_all (λ t. ltb t.number scope.tasks) (choices s) ≡ true
  choices_known s h =
      let p = and_parts (list_all (operand_declared scope) (operands s)) (list_all (target_declared scope) (targets s) && list_all (λ t. ltb t.number scope.tasks) (choices s)) h in
      (and_parts (list_all (target_declared scope) (targets s)) (list_all (λ t. ltb t.number scope.tasks) (choices s)) p.1).1

  known_end : (k : ℕ) (task : List Statement) (σ : Run) → all_placed scope task ≡ true → Known scope.tasks σ.chosen → Known scope.tasks (exec k task σ).chosen
  known_end k [] σ h c = c
  known_end (suc k) (s ∷ rest) σ h c = known_end k rest σ (and_parts (declared scope s && placed s (length rest)) (all_placed scope rest) h).1 c
  known_end zero (s ∷ rest) σ h c =
      let p = and_parts (declared scope s && placed s (length rest)) (all_placed scope rest) h in
      let named = choices_known s (and_parts (declared scope s) (placed s (length rest)) p.0).0 in
      known_end (passes s σ) rest (after s σ) p.1 (known_after s σ named c)

known_visit : (p : Source) → sound p ≡ true → (row : List ℕ) (number : ℕ) (next : Next) (emitted variables : List ℕ) → Known (length p.tasks) next
    → Known (length p.tasks) (after_visit p row (record { number = number; next = next; emitted = emitted; variables = variables })).next
known_visit p h row number (Next.Task t) emitted variables c =
    known_end (scope_of p) 0 (task_of p t.number) (begun row variables) (placed_at p h t.number c) tt
known_visit p h row number Next.Stopped emitted variables c = tt

pub next_known : NextKnown
next_known p h rows zero = some_task p h
next_known p h rows (suc n) =
    let m : Plain = visits p rows n in
    known_visit p h (rows n) m.number m.next m.emitted m.variables (next_known p h rows n)
