-- What the works of statements do to an attempt.
use Rattle.std.proofs.Common.{◌≡◌, ℕ, ◌+◌, ◌<◌, ◌≤◌, Bool, true, false, cond, ◌&&◌, ltb, List, [], ◌∷◌, length, None, Some, set, sym, refl, ap, ◌∙◌, inl, inr, subst, arith, length-append, length-set}
use Rattle.std.specs.List.{list_all}
use Rattle.std.proofs.lemmas.Bool.{and_parts, cases_Bool, cond-false, cond-true, ltb-true, or_left, or_right}
use Rattle.std.proofs.lemmas.List.{get_or-set_same}
use Rattle.words.proofs.Kept.{pushed_room}
use Rattle.program.specs.declared.check.Scope.{Scope}
use Rattle.program.specs.declared.statement.Index.{Index}
use Rattle.program.specs.declared.statement.Next.{Next}
use Rattle.program.specs.declared.statement.Operand.{Operand}
use Rattle.program.specs.declared.statement.Operator.{Operator}
use Rattle.program.specs.declared.statement.Statement.{Statement}
use Rattle.program.specs.declared.statement.Target.{Target}
use Rattle.program.specs.Paths.{◌∈◌}
use Rattle.program.specs.Runs.{Run, after, holds, next_word, result_of, value}
use Rattle.program.specs.Shapes.{emits, ending, operands, targets, ways}
use Rattle.program.specs.Sound.{declared, operand_declared}
use Rattle.laws.specs.Views.{overlay}
use Rattle.laws.proofs.Views.{length-overlay}
use Rattle.layout.specs.Places.{variable_place}
use Rattle.facts.specs.declared.set.VariableSet.{VariableSet}
use Rattle.facts.specs.Sets.{has, single, union}
use Rattle.layout.specs.Chains.{next_known}
use Rattle.calls.specs.Running.{direct, marked, went_on}
use Rattle.calls.specs.Stages.{Attempt}
use Rattle.cabinet.proofs.Overlays.{overlay_back, overlay_set}
use Rattle.cabinet.specs.declared.work.Work.{Work}
use Rattle.cabinet.specs.Works.{OfKind, done, passed, set_copy, store_of, work_of, worked}

-- an ending chooses a task that is declared, or a stop
pub end_known : (n : Scope) (s : Statement) (next : Next) → declared n s ≡ true → OfKind s (Work.End next) → next_known n.tasks (next_word next) ≡ true
end_known n Statement.Stop next h k =
    let e : next ≡ Next.Stopped = cc in
    subst (λ x. next_known n.tasks (next_word x) ≡ true) (sym e) (or_right (ltb 16 n.tasks) _ refl)
end_known n (Statement.Set m a o b) next h k = let e = k.1 in cc
end_known n (Statement.Emit a) next h k = let e = k.1 in cc
end_known n (Statement.Skip j t) next h k = let e = k.1 in cc
end_known n (Statement.Next t) next h k =
    let e : next ≡ Next.Task t = cc in
    subst (λ x. next_known n.tasks (next_word x) ≡ true) (sym e) (or_left _ _ (and_parts (ltb t.number n.tasks) true h).0)
end_known n (Statement.Choose c t u) next h k =
    let known = and_parts (ltb t.number n.tasks) (ltb u.number n.tasks && true) (and_parts (list_all (operand_declared n) (operands (Statement.Choose c t u))) _ h).1 in
    let e : next ≡ Next.Task (cond k.0 t u) = let e = k.1 in cc in
    subst (λ x. next_known n.tasks (next_word x) ≡ true) (sym e)
    (elim k.0 as (λ b. next_known n.tasks (next_word (Next.Task (cond b t u))) ≡ true) [
      | true ↦ or_left _ _ known.0
      | false ↦ or_left _ _ (and_parts (ltb u.number n.tasks) true known.1).0
    ])

-- What a statement that is no ending does to its attempt, whatever words were read. The variables of which f is true are logged.
pub record Does (f : ℕ → Bool) (s : Statement) (w : Work) (a b : Attempt) : Type 0 where
  pub no_end : ending s ≡ false
  pub way : passed w ∈ ways s
  pub near : passed w ≤ 15
  pub task : b.task ≡ a.task
  pub inputs : b.inputs ≡ a.inputs
  pub locals : length b.locals ≡ length a.locals
  pub emitted : length a.emitted + emits s ≤ 8 → length b.emitted ≡ length a.emitted + emits s
  pub copies : length b.copies ≡ length a.copies
  pub set : b.set ≡ marked f (targets s) a.set

-- what a set of a variable does
record Sets (f : ℕ → Bool) (v x : ℕ) (a b : Attempt) : Type 0 where
  task : b.task ≡ a.task
  inputs : b.inputs ≡ a.inputs
  locals : b.locals ≡ a.locals
  emitted : b.emitted ≡ a.emitted
  copies : b.copies ≡ cond (f v) (set a.copies v x) a.copies
  set : b.set ≡ cond (f v) (union a.set (single v)) a.set

set_or_not : (b : Bool) (xs : List ℕ) (v x : ℕ) → length (cond b (set xs v x) xs) ≡ length xs
set_or_not true xs v x = length-set xs v x
set_or_not false xs v x = refl

-- attempts with the same parts
same_parts : (b c : Attempt) → b.task ≡ c.task → b.at ≡ c.at → b.inputs ≡ c.inputs → b.locals ≡ c.locals → b.emitted ≡ c.emitted → b.copies ≡ c.copies → b.set ≡ c.set → b ≡ c
same_parts b c t p i l e k s = λ j. record { task = t j; at = p j; inputs = i j; locals = l j; emitted = e j; copies = k j; set = s j }

module _ (f : ℕ → Bool) (logged : VariableSet) (same : (v : ℕ) → v < 48 → has logged v ≡ f v) (a : Attempt) where
  along : (s : Statement) (w u : Work) → w ≡ u → Does f s u a (done logged u a) → Does f s w a (done logged w a)
  along s w u e d = subst (λ w. Does f s w a (done logged w a)) (sym e) d

  -- the copy of a logged variable alters and is marked, and nothing of any other
  sets : (v x : ℕ) → v < 48 → (b : Attempt) → b ≡ cond (has logged v) (set_copy v x a) a → Sets f v x a b
  sets v x l b e =
      elim (cases_Bool (f v)) [
        | inl h ↦
            let here : b ≡ set_copy v x a = e ∙ cond-true (has logged v) (set_copy v x a) a (same v l ∙ h) in
            subst (Sets f v x a) (sym here)
            (record { task = refl; inputs = refl; locals = refl; emitted = refl; copies = sym (cond-true (f v) (set a.copies v x) a.copies h); set = sym (cond-true (f v) (union a.set (single v)) a.set h) })
        | inr h ↦
            let here : b ≡ a = e ∙ cond-false (has logged v) (set_copy v x a) a (same v l ∙ h) in
            subst (Sets f v x a) (sym here)
            (record { task = refl; inputs = refl; locals = refl; emitted = refl; copies = sym (cond-false (f v) (set a.copies v x) a.copies h); set = sym (cond-false (f v) (union a.set (single v)) a.set h) })
      ]

  pub does : (s : Statement) (w : Work) → OfKind s w → ((next : Next) → w ≡ Work.End next → ⊥) → Does f s w a (done logged w a)
  does Statement.Stop w k goes = absurd (goes _ k)
  does (Statement.Set (Target.Variable v) c o d) w k goes =
      let p = sets v.number k.0 v.known _ refl in
      along (Statement.Set (Target.Variable v) c o d) w (Work.Set (Target.Variable v) k.0) k.1
      (record { no_end = refl; way = inl refl; near = omega arith; task = p.task; inputs = p.inputs; locals = ap length p.locals; emitted = λ r. omega (arith, ap length p.emitted); copies = ap length p.copies ∙ set_or_not (f v.number) a.copies v.number k.0; set = p.set })
  does (Statement.Set (Target.Local l) c o d) w k goes =
      along (Statement.Set (Target.Local l) c o d) w (Work.Set (Target.Local l) k.0) k.1
      (record { no_end = refl; way = inl refl; near = omega arith; task = refl; inputs = refl; locals = length-set a.locals l.number k.0; emitted = λ r. omega arith; copies = refl; set = refl })
  does (Statement.Emit c) w k goes =
      along (Statement.Emit c) w (Work.Emit k.0) k.1
      (record { no_end = refl; way = inl refl; near = omega arith; task = refl; inputs = refl; locals = refl; emitted = λ r. ap length (pushed_room 8 a.emitted k.0 (omega arith)) ∙ length-append a.emitted (k.0 ∷ []); copies = refl; set = refl })
  does (Statement.Skip j t) w k goes =
      along (Statement.Skip j t) w (Work.Pass (cond k.0 j.count 0)) k.1
      (record {
        no_end = refl;
        way = elim k.0 as (λ b. cond b j.count 0 ∈ (0 ∷ j.count ∷ [])) [ true ↦ inr (inl refl) | false ↦ inl refl ];
        near = let near = j.near.1 in elim k.0 as (λ b. cond b j.count 0 ≤ 15) [ true ↦ near | false ↦ omega arith ];
        task = refl;
        inputs = refl;
        locals = refl;
        emitted = λ r. omega arith;
        copies = refl;
        set = refl;
      })
  does (Statement.Next t) w k goes = absurd (goes _ k)
  does (Statement.Choose c t u) w k goes = absurd (goes _ k.1)

set_known : (n : Scope) (v : Index 48) (x : Operand) (o : Operator) (y : Operand) → declared n (Statement.Set (Target.Variable v) x o y) ≡ true → v.number < n.variables
set_known n v x o y h =
    let targets = and_parts (ltb v.number n.variables && true) true (and_parts (list_all (operand_declared n) (x ∷ y ∷ [])) _ h).1 in
    ltb-true v.number n.variables (and_parts (ltb v.number n.variables) true targets.0).0

-- What a statement comes to on what its attempt sees.
module _ (f : ℕ → Bool) (logged : VariableSet) (same : (v : ℕ) → v < 48 → has logged v ≡ f v) (a : Attempt) (vs : List ℕ) where
  abbrev seen : Run
  seen = record { inputs = a.inputs; variables = overlay f a.copies vs; locals = a.locals; emitted = a.emitted; chosen = Next.Stopped }

  -- an ending chooses what comes next
  pub ends_with : (s : Statement) → ending s ≡ true → work_of s seen ≡ Work.End (after s seen).chosen
  unfolding work_of
  ends_with Statement.Stop e = refl
  ends_with (Statement.Set m x o y) e = cc
  ends_with (Statement.Emit x) e = cc
  ends_with (Statement.Skip j t) e = cc
  ends_with (Statement.Next t) e = refl
  ends_with (Statement.Choose c t u) e = elim (holds seen c) as (λ b. Work.End (Next.Task (cond b t u)) ≡ Work.End (cond b (Next.Task t) (Next.Task u))) [ true ↦ refl | false ↦ refl ]

  -- any other statement makes the store of its work
  pub stores_with : (n : Scope) (s : Statement) → n.variables ≤ length vs → declared n s ≡ true → ending s ≡ false → store_of logged (work_of s seen) ≡ direct f (targets s) (after s seen)
  unfolding work_of
  stores_with n Statement.Stop m h e = refl
  stores_with n (Statement.Set (Target.Variable v) x o y) m h e =
      let word : ℕ = result_of o (value seen x) (value seen y) in
      let known = set_known n v x o y h in
      let inside : v.number < length (overlay f a.copies vs) = omega (arith, length-overlay f a.copies vs) in
      ap (λ b. cond b None (Some (record { place = variable_place v.number; word = word }))) (same v.number v.known)
      ∙ ap (λ w. cond (f v.number) None (Some (record { place = variable_place v.number; word = w }))) (sym (get_or-set_same (overlay f a.copies vs) v.number word 0 inside))
  stores_with n (Statement.Set (Target.Local l) x o y) m h e = refl
  stores_with n (Statement.Emit x) m h e = refl
  stores_with n (Statement.Skip j t) m h e = refl
  stores_with n (Statement.Next t) m h e = refl
  stores_with n (Statement.Choose c t u) m h e = refl

  -- and takes the attempt on
  module _ (far : a.at < 64) where
    pub goes_on_with : (n : Scope) (s : Statement) → n.variables ≤ length vs → declared n s ≡ true → ending s ≡ false → length a.emitted + emits s ≤ 8 → worked logged (work_of s seen) a ≡ went_on f s seen (after s seen) a
    unfolding work_of worked
    goes_on_with n Statement.Stop m h e r = cc
    goes_on_with n (Statement.Set (Target.Variable v) x o y) m h e r =
        let word : ℕ = result_of o (value seen x) (value seen y) in
        let known = set_known n v x o y h in
        let p = sets f logged same a v.number word v.known _ refl in
        same_parts _ _ p.task (omega arith) p.inputs p.locals p.emitted (p.copies ∙ sym (overlay_set f a.copies vs v.number word (omega arith))) p.set
    goes_on_with n (Statement.Set (Target.Local l) x o y) m h e r = same_parts _ _ refl (omega arith) refl refl refl (sym (overlay_back f a.copies vs)) refl
    goes_on_with n (Statement.Emit x) m h e r = same_parts _ _ refl (omega arith) refl refl (pushed_room 8 a.emitted (value seen x) (omega arith)) (sym (overlay_back f a.copies vs)) refl
    goes_on_with n (Statement.Skip j t) m h e r =
        let near = j.near.1 in
        let small : cond (holds seen t) j.count 0 ≤ 15 = elim (holds seen t) as (λ b. cond b j.count 0 ≤ 15) [ true ↦ near | false ↦ omega arith ] in
        same_parts _ _ refl (omega arith) refl refl refl (sym (overlay_back f a.copies vs)) refl
    goes_on_with n (Statement.Next t) m h e r = cc
    goes_on_with n (Statement.Choose c t u) m h e r = cc
