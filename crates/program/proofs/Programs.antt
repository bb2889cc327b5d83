-- From the checks of the tasks to a well-formed program, and back.
use Rattle.std.proofs.Common.{◌≡◌, ℕ, ◌<◌, ◌≤◌, Bool, true, ◌&&◌, ltb, leb, ◌⊎◌, List, [], ◌∷◌, length, ap, ◌∙◌, inl, inr, arith}
use Rattle.std.proofs.lemmas.List.{get_or_default, get_or_past}
use Rattle.std.proofs.lemmas.List.Sums.{AllPass-from_list_all, list_all-from_AllPass}
use Rattle.std.proofs.lemmas.Bool.{and_from, and_parts, le-leb, lt-ltb, leb-true, ltb-true, cases_lt}
use Rattle.words.proofs.Kept.{items_few}
use Rattle.program.specs.declared.draft.Draft.{Draft}
use Rattle.program.specs.declared.program.Program.{Program}
use Rattle.program.specs.declared.statement.Statement.{Statement}
use Rattle.std.specs.List.{list_all}
use Rattle.program.specs.Paths.{paths, ◌∈◌, emitted_on}
use Rattle.program.specs.Sound.{Source, sound, counts_sound, all_placed, few_emits, task_of, task_sound, scope_of, sound_at, total}
use Rattle.program.specs.Drafts.{NoneIsFlawed, source_of}
use Rattle.program.specs.Programs.{program_source}
use Rattle.program.proofs.Drafts.{tasks_count, total_count}

counts_checked : (d : Draft) → 0 < length (source_of d).tasks → counts_sound (source_of d) ≡ true
counts_checked d some =
    let few = d.few in
    let variables = items_few d.firsts in
    let spans = items_few d.spans in
    let statements = items_few d.statements in
    let tasks = tasks_count d in
    let all = total_count d in
    let p : Source = source_of d in
    and_from _ _ (and_from _ _ (le-leb (length p.firsts) 48 (omega arith)) (le-leb p.locals 8 (omega arith)))
    (and_from _ _ (and_from _ _ (lt-ltb 0 (length p.tasks) (omega arith)) (le-leb (length p.tasks) 16 (omega arith))) (le-leb (total p.tasks) 256 (omega arith)))

pub all_checked : (d : Draft) → 0 < length (source_of d).tasks → NoneIsFlawed (source_of d) → sound (source_of d) ≡ true
all_checked d some none =
    let p : Source = source_of d in
    and_from _ _ (counts_checked d some)
    (list_all-from_AllPass _ p.tasks (λ u other h. ap (task_sound (scope_of p)) (get_or_default p.tasks u other [] h) ∙ none.each u h))

-- What a well-formed source keeps to

module _ (p : Source) (h : sound p ≡ true) where
  pub some_task : 0 < length p.tasks
  some_task =
      let counts = (and_parts (counts_sound p) _ h).0 in
      let tasks = (and_parts (leb (length p.firsts) 48 && leb p.locals 8) _ counts).1 in
      ltb-true 0 (length p.tasks) (and_parts (ltb 0 (length p.tasks)) (leb (length p.tasks) 16) (and_parts _ (leb (total p.tasks) 256) tasks).0).0

  pub task_at : (t : ℕ) → t < length p.tasks → sound_at p t ≡ true
  task_at t l = AllPass-from_list_all _ p.tasks (and_parts (counts_sound p) _ h).1 t [] l

  pub placed_at : (t : ℕ) → t < length p.tasks → all_placed (scope_of p) (task_of p t) ≡ true
  placed_at t l =
      let task : List Statement = task_of p t in
      (and_parts (all_placed _ task) (few_emits task) (and_parts (ltb 0 (length task) && leb (length task) 64) _ (task_at t l)).1).0

-- and so a program

-- of a task that is there, its check; of any other, that it has no statements
pub task_cases : (p : Program) (t : ℕ) → (sound_at (program_source p) t ≡ true) ⊎ (task_of (program_source p) t ≡ [])
task_cases p t =
    elim (cases_lt t (length (program_source p).tasks)) [
      | inl h ↦ inl (task_at (program_source p) p.checked t h)
      | inr h ↦ inr (get_or_past (program_source p).tasks t [] h)
    ]

-- at most 64 statements
pub task_short : (p : Program) (t : ℕ) → length (task_of (program_source p) t) ≤ 64
task_short p t =
    let task : List Statement = task_of (program_source p) t in
    elim (task_cases p t) [
      | inl h ↦ leb-true (length task) 64 (and_parts (ltb 0 (length task)) _ (and_parts (ltb 0 (length task) && leb (length task) 64) _ h).0).1
      | inr e ↦ rw e (omega arith)
    ]

task_few : (p : Program) (t : ℕ) → few_emits (task_of (program_source p) t) ≡ true
task_few p t =
    let task : List Statement = task_of (program_source p) t in
    elim (task_cases p t) [
      | inl h ↦ (and_parts (all_placed _ task) (few_emits task) (and_parts (ltb 0 (length task) && leb (length task) 64) _ h).1).1
      | inr e ↦ ap few_emits e
    ]

pub pass_in : {A : Type 0} (p : A → Bool) (xs : List A) (x : A) → x ∈ xs → list_all p xs ≡ true → p x ≡ true
pass_in p [] x h e = absurd h
pass_in p (y ∷ xs) x (inl q) e = ap p q ∙ (and_parts (p y) (list_all p xs) e).0
pass_in p (y ∷ xs) x (inr h) e = pass_in p xs x h (and_parts (p y) (list_all p xs) e).1

-- no path adds more than eight words to the record
pub path_few : (p : Program) (t : ℕ) (π : List Statement) → π ∈ paths 0 (task_of (program_source p) t) → emitted_on π ≤ 8
path_few p t π h = leb-true (emitted_on π) 8 (pass_in (λ ρ. leb (emitted_on ρ) 8) _ π h (task_few p t))
