-- What fits a program: an attempt that starts, one that goes on, and the statement that comes.
use Rattle.std.proofs.Common.{◌≡◌, ℕ, zero, suc, ◌+◌, ◌-◌, ◌<◌, Bool, true, false, cond, not, ◌&&◌, ◌||◌, eqb, ltb, leb, List, [], ◌∷◌, length, get_or, drop, replicate, sym, refl, ap, ◌∙◌, inl, inr, subst, arith, zero-add}
use Rattle.std.specs.List.{flat_map, list_all, range_with_len}
use Rattle.std.proofs.lemmas.Bool.{and_from, and_parts, cond-false, not-true, true≢false, eq-eqb, eqb-true, false≢true, leb-true, le-leb, lt-ltb, ltb-true, cases_Bool, cond-true, eqb-false, or_cases, or_left, or_right}
use Rattle.std.proofs.lemmas.List.{drop_more, drop-drop}
use Rattle.std.proofs.lemmas.List.FromFn.{get_or-range_with_len, length-range_with_len}
use Rattle.std.proofs.lemmas.List.Sums.{AllPass-from_list_all, list_all-from_AllPass}
use Rattle.program.specs.declared.check.Scope.{Scope}
use Rattle.program.specs.declared.statement.Next.{Next}
use Rattle.program.specs.declared.statement.Statement.{Statement}
use Rattle.program.specs.declared.statement.Target.{Target}
use Rattle.program.specs.Paths.{◌∈◌, emitted_on, paths}
use Rattle.program.specs.Runs.{Run, after, holds, next_word}
use Rattle.program.specs.Shapes.{emits, ending, operands, targets, ways}
use Rattle.program.specs.Sound.{Source, all_placed, declared, few_emits, operand_declared, placed, scope_of, sound, target_declared, task_of}
use Rattle.program.proofs.Programs.{pass_in, placed_at, task_at}
use Rattle.laws.proofs.Paths.{in_joined, in_map}
use Rattle.laws.proofs.Views.{length-overlay}
use Rattle.facts.specs.declared.set.VariableSet.{VariableSet}
use Rattle.facts.specs.Membership.{has_of, has_union}
use Rattle.facts.specs.Sets.{empty, has, single, union, variables}
use Rattle.layout.specs.Chains.{next_known}
use Rattle.calls.specs.Lawful.{attempt_fits, has_room}
use Rattle.calls.specs.Running.{GoesOn, coming, logs, marked, started}
use Rattle.calls.specs.Stages.{Attempt}
use Rattle.calls.specs.Words.{variables_in}

-- The set

-- what holds of the numbers below n passes all
range_from : (q : ℕ → Bool) (n : ℕ) → ((v : ℕ) → v < n → q v ≡ true) → list_all q (range_with_len 0 n) ≡ true
range_from q n h =
    list_all-from_AllPass q (range_with_len 0 n)
    (λ i d l. let in_range : i < n = omega (arith, length-range_with_len 0 n) in ap q (get_or-range_with_len 0 n i d in_range ∙ zero-add i) ∙ h i in_range)

range_to : (q : ℕ → Bool) (n v : ℕ) → list_all q (range_with_len 0 n) ≡ true → v < n → q v ≡ true
range_to q n v h l = sym (ap q (get_or-range_with_len 0 n v 0 l ∙ zero-add v)) ∙ AllPass-from_list_all q (range_with_len 0 n) h v 0 (omega (arith, length-range_with_len 0 n))

-- a set whose members are below n
abbrev pub Below : ℕ → VariableSet → Type 0
Below n set = (v : ℕ) → v < 48 → has set v ≡ true → v < n

below_tests : (n : ℕ) (set : VariableSet) → Below n set → list_all (λ v. not (has set v) || ltb v n) variables ≡ true
below_tests n set h =
    range_from (λ v. not (has set v) || ltb v n) 48
    (λ v l. elim (cases_Bool (has set v)) [ inl e ↦ or_right (not (has set v)) _ (lt-ltb v n (h v l e)) | inr e ↦ or_left _ _ (ap not e) ])

tests_below : (n : ℕ) (set : VariableSet) → list_all (λ v. not (has set v) || ltb v n) variables ≡ true → Below n set
tests_below n set h v l e =
    let here : (not (has set v) || ltb v n) ≡ true = range_to (λ v. not (has set v) || ltb v n) 48 v h l in
    ltb-true v n (sym (ap (λ b. not b || ltb v n) e) ∙ here)

below_empty : (n : ℕ) → Below n empty
unfolding empty
below_empty n v l e = absurd (false≢true (sym (has_of (λ v. false) v l) ∙ e))

below_one_more : (n u : ℕ) (set : VariableSet) → u < n → Below n set → Below n (union set (single u))
unfolding single
below_one_more n u set in_n h v l e =
    elim (or_cases (has set v) (has (single u) v) (sym (has_union set (single u) v l) ∙ e)) [
      | inl old ↦ h v l old
      | inr new ↦ let same = eqb-true v u (sym (has_of (λ v. eqb v u) v l) ∙ new) in omega arith
    ]

below_marked : (scope : Scope) (logged : ℕ → Bool) (ts : List Target) (set : VariableSet)
    → list_all (target_declared scope) ts ≡ true → Below scope.variables set → Below scope.variables (marked logged ts set)
below_marked scope logged [] set h b = b
below_marked scope logged (Target.Local l ∷ more) set h b = b
below_marked scope logged (Target.Variable v ∷ more) set h b =
    elim (logged v.number) as (λ t. Below scope.variables (cond t (union set (single v.number)) set)) [
      | true ↦ below_one_more scope.variables v.number set (ltb-true v.number scope.variables (and_parts (ltb v.number scope.variables) _ h).0) b
      | false ↦ b
    ]

-- What is tested of an attempt

pub record FitsParts (p : Source) (a : Attempt) : Type 0 where
  pub task : a.task < length p.tasks
  pub at : a.at < length (task_of p a.task)
  pub room : has_room p a ≡ true
  pub set : Below (length p.firsts) a.set
  pub inputs : length a.inputs ≡ 8
  pub locals : length a.locals ≡ 8
  pub copies : length a.copies ≡ 48

pub fits_parts : (p : Source) (a : Attempt) → attempt_fits p a ≡ true → FitsParts p a
fits_parts p a h =
    let halves = and_parts _ ((eqb (length a.inputs) 8 && eqb (length a.locals) 8) && eqb (length a.copies) 48) h in
    let place = and_parts (ltb a.task (length p.tasks) && ltb a.at (length (task_of p a.task))) _ halves.0 in
    let inside = and_parts (ltb a.task (length p.tasks)) (ltb a.at (length (task_of p a.task))) place.0 in
    let kept = and_parts (has_room p a) _ place.1 in
    let sizes = and_parts (eqb (length a.inputs) 8 && eqb (length a.locals) 8) (eqb (length a.copies) 48) halves.1 in
    let words = and_parts (eqb (length a.inputs) 8) (eqb (length a.locals) 8) sizes.0 in
    record {
      task = ltb-true a.task (length p.tasks) inside.0;
      at = ltb-true a.at (length (task_of p a.task)) inside.1;
      room = kept.0;
      set = tests_below (length p.firsts) a.set kept.1;
      inputs = eqb-true (length a.inputs) 8 words.0;
      locals = eqb-true (length a.locals) 8 words.1;
      copies = eqb-true (length a.copies) 48 sizes.1;
    }

pub parts_fit : (p : Source) (a : Attempt) → FitsParts p a → attempt_fits p a ≡ true
parts_fit p a f =
    and_from _ _
    (and_from _ _ (and_from _ _ (lt-ltb a.task (length p.tasks) f.task) (lt-ltb a.at (length (task_of p a.task)) f.at)) (and_from _ _ f.room (below_tests (length p.firsts) a.set f.set)))
    (and_from _ _ (and_from _ _ (eq-eqb (length a.inputs) 8 f.inputs) (eq-eqb (length a.locals) 8 f.locals)) (eq-eqb (length a.copies) 48 f.copies))

-- The statement that comes

-- what a statement of a well-formed task keeps to
record Stands (scope : Scope) (task : List Statement) (i : ℕ) (s : Statement) : Type 0 where
  names : declared scope s ≡ true
  -- what is no ending leads at most to the ending
  near : ending s ≡ false → (k : ℕ) → k ∈ ways s → i + 1 + k < length task
  -- an ending is the last
  last : ending s ≡ true → i + 1 ≡ length task

stands_at : (scope : Scope) (task : List Statement) (i : ℕ) (d : Statement) → all_placed scope task ≡ true → i < length task → Stands scope task i (get_or task i d)
stands_at scope [] i d h l = absurd (omega arith)
stands_at scope (s ∷ rest) zero d h l =
    let n : ℕ = length rest in
    let here = (and_parts (declared scope s && placed s n) (all_placed scope rest) h).0 in
    let put = and_parts (declared scope s) (placed s n) here in
    let way = and_parts (cond (eqb n 0) (ending s) (not (ending s))) (list_all (λ k. leb k (n - 1)) (ways s)) put.1 in
    let some : ending s ≡ false → 0 < n =
    λ e.
    elim (cases_Bool (eqb n 0)) [
      | inl z ↦ absurd (false≢true (sym e ∙ sym (cond-true (eqb n 0) (ending s) (not (ending s)) z) ∙ way.0))
      | inr z ↦ let ne = eqb-false n 0 z in omega arith
    ] in
    record {
      names = put.0;
      near = λ e k m. let far = leb-true k (n - 1) (pass_in (λ k. leb k (n - 1)) (ways s) k m way.1) in let z = some e in omega arith;
      last = λ e.
          elim (cases_Bool (eqb n 0)) [
            | inl z ↦ let none = eqb-true n 0 z in omega arith
            | inr z ↦ absurd (true≢false (sym e ∙ not-true (ending s) (sym (cond-false (eqb n 0) (ending s) (not (ending s)) z) ∙ way.0)))
          ];
    }
stands_at scope (s ∷ rest) (suc i) d h l =
    let on = stands_at scope rest i d (and_parts (declared scope s && placed s (length rest)) (all_placed scope rest) h).1 (omega arith) in
    record {
      names = on.names;
      near = λ e k w. let m = on.near e k w in omega arith;
      last = λ e. let m = on.last e in omega arith;
    }

module _ (p : Source) (a : Attempt) (h : sound p ≡ true) (f : FitsParts p a) where
  coming_stands : Stands (scope_of p) (task_of p a.task) a.at (coming p a)
  coming_stands = stands_at (scope_of p) (task_of p a.task) a.at Statement.Stop (placed_at p h a.task f.task) f.at

pub statement_declared : (p : Source) (a : Attempt) → sound p ≡ true → attempt_fits p a ≡ true → declared (scope_of p) (coming p a) ≡ true
statement_declared p a h fits = (coming_stands p a h (fits_parts p a fits)).names

pub ending_last : (p : Source) (a : Attempt) → sound p ≡ true → attempt_fits p a ≡ true → ending (coming p a) ≡ true → a.at + 1 ≡ length (task_of p a.task)
ending_last p a h fits e = (coming_stands p a h (fits_parts p a fits)).last e

-- an ending chooses a task of the program, or a stop
chooses_known : (scope : Scope) (s : Statement) (σ : Run) → declared scope s ≡ true → ending s ≡ true
    → next_known scope.tasks (next_word (after s σ).chosen) ≡ true
chooses_known scope Statement.Stop σ h e = or_right (ltb 16 scope.tasks) _ refl
chooses_known scope (Statement.Set n a o b) σ h e = absurd (false≢true e)
chooses_known scope (Statement.Emit a) σ h e = absurd (false≢true e)
chooses_known scope (Statement.Skip k t) σ h e = absurd (false≢true e)
chooses_known scope (Statement.Next t) σ h e = or_left _ _ (and_parts (ltb t.number scope.tasks) true h).0
chooses_known scope (Statement.Choose c t u) σ h e =
    let known = and_parts (ltb t.number scope.tasks) (ltb u.number scope.tasks && true) (and_parts (list_all (operand_declared scope) (operands (Statement.Choose c t u))) _ h).1 in
    elim (holds σ c) as (λ b. next_known scope.tasks (next_word (cond b (Next.Task t) (Next.Task u))) ≡ true) [
      | true ↦ or_left _ _ known.0
      | false ↦ or_left _ _ (and_parts (ltb u.number scope.tasks) true known.1).0
    ]

pub ending_known : (p : Source) (a : Attempt) → sound p ≡ true → attempt_fits p a ≡ true → ending (coming p a) ≡ true
    → (σ : Run) → next_known (length p.tasks) (next_word (after (coming p a) σ).chosen) ≡ true
ending_known p a h fits e σ = chooses_known (scope_of p) (coming p a) σ (statement_declared p a h fits) e

-- Room in the record

-- what holds of each element passes all
all_from : {A : Type 0} (q : A → Bool) (xs : List A) → ((x : A) → x ∈ xs → q x ≡ true) → list_all q xs ≡ true
all_from q [] h = refl
all_from q (x ∷ xs) h = and_from _ _ (h x (inl refl)) (all_from q xs (λ y m. h y (inr m)))

-- to pass over k statements is to drop them
left_paths : (k : ℕ) (rest π : List Statement) → π ∈ paths 0 (drop k rest) → π ∈ paths k rest
left_paths zero rest π m = m
left_paths (suc k) [] π m = m
left_paths (suc k) (s ∷ rest) π m = left_paths k rest π m

-- each path behind a statement goes on from it
path_on : (task : List Statement) (i k : ℕ) (d : Statement) (π : List Statement)
    → i < length task → k ∈ ways (get_or task i d) → π ∈ paths 0 (drop (i + 1 + k) task) → (get_or task i d ∷ π) ∈ paths 0 (drop i task)
path_on task i k d π l w m =
    let s : Statement = get_or task i d in
    let rest : List Statement = drop (i + 1) task in
    let here : drop i task ≡ s ∷ rest = drop_more task i d l in
    let left : drop (i + 1 + k) task ≡ drop k rest = sym (drop-drop k (i + 1) task) in
    subst (λ l. (s ∷ π) ∈ paths 0 l) (sym here)
    (in_map (λ ρ. s ∷ ρ) π (flat_map (λ k. paths k rest) (ways s)) (in_joined (λ k. paths k rest) k (ways s) π w (left_paths k rest π (subst (λ l. π ∈ paths 0 l) left m))))

room_on : (task : List Statement) (i k n : ℕ) (d : Statement) → i < length task → k ∈ ways (get_or task i d)
    → list_all (λ π. leb (n + emitted_on π) 8) (paths 0 (drop i task)) ≡ true
    → list_all (λ π. leb (n + emits (get_or task i d) + emitted_on π) 8) (paths 0 (drop (i + 1 + k) task)) ≡ true
room_on task i k n d l w h =
    all_from (λ π. leb (n + emits (get_or task i d) + emitted_on π) 8) _
    (λ π m.
    let low = leb-true (n + (emits (get_or task i d) + emitted_on π)) 8 (pass_in (λ π. leb (n + emitted_on π) 8) _ (get_or task i d ∷ π) (path_on task i k d π l w m) h) in
    le-leb _ 8 (omega arith))

-- An attempt that goes on, and one that starts

pub attempt_goes_on : (p : Source) (a b : Attempt) → sound p ≡ true → attempt_fits p a ≡ true → ending (coming p a) ≡ false → GoesOn p a b → attempt_fits p b ≡ true
attempt_goes_on p a b h fits e g =
    let f = fits_parts p a fits in
    let s : Statement = coming p a in
    let task : List Statement = task_of p a.task in
    let stands = coming_stands p a h f in
    let near = stands.near e g.over g.way in
    let same : task_of p b.task ≡ task = ap (task_of p) g.task in
    let sets = (and_parts (list_all (target_declared (scope_of p)) (targets s)) _ (and_parts (list_all (operand_declared (scope_of p)) (operands s)) _ stands.names).1).0 in
    parts_fit p b
    (record {
      task = omega (arith, g.task, f.task);
      at = subst (λ (l : List Statement). b.at < length l) (sym same) (omega (arith, g.at));
      room = rw (same, g.at, g.emitted) (room_on task a.at g.over (length a.emitted) Statement.Stop f.at g.way f.room);
      set = subst (λ (set : VariableSet). Below (length p.firsts) set) (sym g.set) (below_marked (scope_of p) (logs p a.task) (targets s) a.set sets f.set);
      inputs = g.inputs ∙ f.inputs;
      locals = g.locals ∙ f.locals;
      copies = g.copies ∙ f.copies;
    })

pub start_fits : (p : Source) (t : ℕ) (row ws : List ℕ) → sound p ≡ true → t < length p.tasks → length row ≡ 8 → attempt_fits p (started p t row ws) ≡ true
start_fits p t row ws h l full =
    let task : List Statement = task_of p t in
    let checked = and_parts (ltb 0 (length task) && leb (length task) 64) (all_placed (scope_of p) task && few_emits task) (task_at p h t l) in
    let few = (and_parts (all_placed (scope_of p) task) (few_emits task) checked.1).1 in
    parts_fit p (started p t row ws)
    (record {
      task = l;
      at = ltb-true 0 (length task) (and_parts (ltb 0 (length task)) (leb (length task) 64) checked.0).0;
      room =
          all_from (λ π. leb (0 + emitted_on π) 8) (paths 0 task)
          (λ π m. let low = leb-true (emitted_on π) 8 (pass_in (λ π. leb (emitted_on π) 8) (paths 0 task) π m few) in le-leb (0 + emitted_on π) 8 (omega arith));
      set = below_empty (length p.firsts);
      inputs = full;
      locals = refl;
      copies = length-overlay (logs p t) (variables_in p ws) (replicate 48 0);
    })
