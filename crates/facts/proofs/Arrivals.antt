-- The facts along the ways to a place, and the facts of the statements that lead there.
use Rattle.std.proofs.Common.{◌≡◌, ℕ, get_or, ◌+◌, ◌<◌, ◌≤◌, true, List, [], ◌∷◌, ◌++◌, map, length, set, Option, Some, sym, refl, ap, ◌∙◌, subst, inl, inr, arith}
use Rattle.std.specs.List.{slice_get}
use Rattle.std.proofs.lemmas.Option.{get_or_from_slice_get, slice_get_cases, slice_get-get_or}
use Rattle.std.proofs.lemmas.List.{get_or-set_same, get_or-set_other}
use Rattle.std.proofs.lemmas.List.Sums.{fold-append}
use Rattle.std.proofs.lemmas.Bool.{cases_eq}
use Rattle.program.specs.declared.statement.Statement.{Statement}
use Rattle.program.specs.Shapes.{ways}
use Rattle.program.specs.Paths.{paths, ◌∈◌}
use Rattle.laws.proofs.Paths.{in_map, from_map}
use Rattle.facts.specs.Joins.{along, IsJoin, IsOverPaths}
use Rattle.facts.specs.Passes.{inside, LeadsTo}
use Rattle.facts.proofs.Joins.{Associative, Commutative, Idempotent, AfterOne, InPart, same_join, join_of_one, join_of_parts, join_after, join_of_list}
use Rattle.facts.proofs.Ways.{Way, paths_are_ways, ways_are_paths}
use Rattle.facts.proofs.Ways.Way.{first, on}

-- the fact of some way to place j
abbrev pub Arrives : {F : Type 0} → F → (Statement → F → F) → List Statement → ℕ → F → Type 0
Arrives start effect task j f = (π : List Statement) × Way task j π × (f ≡ along effect start π)

-- the fact of some way that has passed the statement at place j
abbrev pub Leaves : {F : Type 0} → F → (Statement → F → F) → List Statement → ℕ → F → Type 0
Leaves start effect task j f = (s : Statement) × (slice_get task j ≡ Some s) × AfterOne (effect s) (Arrives start effect task j) f

-- each fact of the table below place `at` is the join of all that left there
abbrev pub Filled : {F : Type 0} → F → (Statement → F → F) → (F → F → F) → List Statement → List F → ℕ → Type 0
Filled {F} start effect join task table at = (i : ℕ) (f : F) → i < at → slice_get table i ≡ Some f → IsJoin join (Leaves start effect task i) f

along_push : {F : Type 0} (effect : Statement → F → F) (f : F) (π : List Statement) (s : Statement) → along effect f (π ++ s ∷ []) ≡ effect s (along effect f π)
along_push effect f π s = fold-append (λ g t. effect t g) f π (s ∷ [])

-- how a way came to place j, if that is not the first
abbrev Came : List Statement → ℕ → List Statement → Type 0
Came task j ρ = (i : ℕ) × (π : List Statement) × (s : Statement) × (k : ℕ) × Way task i π × (slice_get task i ≡ Some s) × (k ∈ ways s) × (j ≡ i + 1 + k) × (ρ ≡ π ++ s ∷ [])

came : {task : List Statement} {j : ℕ} {ρ : List Statement} → Way task j ρ → 0 < j → Came task j ρ
came first h = absurd (omega arith)
came (on {i = i} {π = π} {s = s} w st k m e) h = (i, π, s, k, w, st, m, e, refl)

no_way_yet : {task : List Statement} {j : ℕ} {ρ : List Statement} → Way task j ρ → j ≡ 0 → ρ ≡ []
no_way_yet first e = refl
no_way_yet (on w st k m e) z = absurd (omega (arith, e, z))

pub same_some : {A : Type 0} {o : Option A} {x y : A} → o ≡ Some x → o ≡ Some y → x ≡ y
same_some p q = cc

-- there is an element at a place within
pub element : {A : Type 0} (xs : List A) (i : ℕ) → i < length xs → (x : A) × (slice_get xs i ≡ Some x)
element xs i l = elim (slice_get_cases xs i).1 [ inl w ↦ (w.0, w.2) | inr p ↦ absurd (omega (arith, p.0)) ]

module _ {F : Type 0} (start : F) (effect : Statement → F → F) (join : F → F → F) where
  -- the start fact arrives at the first place
  pub arrives_first : Idempotent join → (task : List Statement) → IsJoin join (Arrives start effect task 0) start
  arrives_first idempotent task = join_of_one idempotent start ([], first, refl) (λ f w. w.2 ∙ ap (along effect start) (no_way_yet w.1 refl))

  -- what leaves a place is the effect of the statement there on what arrives
  pub leaves : ((s : Statement) (a b : F) → effect s (join a b) ≡ join (effect s a) (effect s b)) → (task : List Statement) (at : ℕ) (s : Statement) (r : F)
      → slice_get task at ≡ Some s → IsJoin join (Arrives start effect task at) r → IsJoin join (Leaves start effect task at) (effect s r)
  leaves distributes task at s r st j =
      same_join (λ f w. (s, st, w)) (λ f w. subst (λ t. AfterOne (effect t) (Arrives start effect task at) f) (same_some w.1 st) w.2) (join_after (effect s) (distributes s) j)

  -- what arrives at a place is what left all the statements that lead there
  pub arrives : Associative join → (task : List Statement) (table : List F) (at : ℕ) → Filled start effect join task table at
      → (r : F) → 0 < at → at ≤ length table → IsJoin join (LeadsTo task table at) r → IsJoin join (Arrives start effect task at) r
  arrives associative task table at filled r pos room j = same_join to from (join_of_parts associative left (λ f c. filled c.from f (omega (arith, c.leads)) c.left) j)
    where
      left : (f : F) → LeadsTo task table at f → F → Type 0
      left f c = Leaves start effect task c.from

      to : (g : F) → InPart (LeadsTo task table at) left g → Arrives start effect task at g
      to g (f, c, (s, st, (h, (π, w, e), q))) =
          let k : c.passed ∈ ways s = subst (λ t. c.passed ∈ ways t) (same_some c.stands st) c.may_pass in
          (π ++ s ∷ [], on w st c.passed k c.leads, q ∙ ap (effect s) e ∙ sym (along_push effect start π s))

      from : (g : F) → Arrives start effect task at g → InPart (LeadsTo task table at) left g
      from g (ρ, w, e) =
          let (i, π, s, k, v, st, m, l, q) = came w pos in
          let f = element table i (omega (arith, l)) in
          (f.0, record { from = i; statement = s; passed = k; stands = st; may_pass = m; leads = l; left = f.1 }, (s, st, (along effect start π, (π, v, refl), e ∙ ap (along effect start) q ∙ along_push effect start π s)))

  -- the table with one fact more
  pub filled_more : (task : List Statement) (table : List F) (at : ℕ) → Filled start effect join task table at
      → (f : F) → at < length table → IsJoin join (Leaves start effect task at) f → Filled start effect join task (set table at f) (at + 1)
  filled_more task table at filled f room here i g low is =
      elim (cases_eq i at) [
        | inl e ↦
            let same : g ≡ f = sym (get_or_from_slice_get (set table at f) i g f is) ∙ ap (λ n. get_or (set table at f) n f) e ∙ get_or-set_same table at f f room in
            rw same (subst (λ n. IsJoin join (Leaves start effect task n) f) (sym e) here)
        | inr n ↦
            let same : g ≡ get_or table i g = sym (get_or_from_slice_get (set table at f) i g g is) ∙ get_or-set_other table at i f g n in
            filled i g (omega arith) (slice_get-get_or table i g (omega arith) ∙ ap Some (sym same))
      ]

  -- what arrives at the end is the join over all paths
  pub arrived : Associative join → Commutative join → Idempotent join → (task : List Statement) (r : F) → inside task ≡ true
      → IsJoin join (Arrives start effect task (length task)) r → IsOverPaths start effect join task r
  arrived associative commutative idempotent task r h j = join_of_list associative commutative idempotent _ r (same_join to from j)
    where
      to : (f : F) → Arrives start effect task (length task) f → f ∈ map (along effect start) (paths 0 task)
      to f w = rw w.2 (in_map (along effect start) w.0 (paths 0 task) (ways_are_paths task w.0 w.1))

      from : (f : F) → f ∈ map (along effect start) (paths 0 task) → Arrives start effect task (length task) f
      from f i = let p = from_map (along effect start) f (paths 0 task) i in (p.0, paths_are_ways task h p.0 p.1, p.2)
