-- The paths of a task, the one that a run takes, and what the write-after-read rule logs on them.
use Rattle.std.proofs.Common.{◌≡◌, ℕ, zero, suc, Bool, true, false, cond, not, ◌&&◌, ◌⊎◌, List, [], ◌∷◌, ◌++◌, map, length, sym, refl, ap, ◌∙◌, subst, inl, inr, arith}
use Rattle.std.specs.List.{flat_map, list_any}
use Rattle.std.proofs.lemmas.Bool.{cases_Bool, false≢true, or_parts, or_cases, or_from, or_left, or_right, and_parts, and_from, not-true, not_from_false}
use Rattle.program.specs.declared.statement.Statement.{Statement}
use Rattle.program.specs.Shapes.{ways}
use Rattle.program.specs.Runs.{Run, holds, after, passes}
use Rattle.program.specs.Paths.{paths, ◌∈◌, reads, writes, written, read_first, LoggedOn}
use Rattle.laws.specs.Again.{TakesAPath, PathsShort, LoggedTested, UnloggedUnread}

-- members of lists that are made of others

in_left : {A : Type 0} (x : A) (xs ys : List A) → x ∈ xs → x ∈ (xs ++ ys)
in_left x [] ys h = absurd h
in_left x (z ∷ xs) ys (inl e) = inl e
in_left x (z ∷ xs) ys (inr h) = inr (in_left x xs ys h)

in_right : {A : Type 0} (x : A) (xs ys : List A) → x ∈ ys → x ∈ (xs ++ ys)
in_right x [] ys h = h
in_right x (z ∷ xs) ys h = inr (in_right x xs ys h)

in_either : {A : Type 0} (x : A) (xs ys : List A) → x ∈ (xs ++ ys) → (x ∈ xs) ⊎ (x ∈ ys)
in_either x [] ys h = inr h
in_either x (z ∷ xs) ys (inl e) = inl (inl e)
in_either x (z ∷ xs) ys (inr h) = elim (in_either x xs ys h) [ inl l ↦ inl (inr l) | inr r ↦ inr r ]

module _ {A B : Type 0} (f : A → B) where
  pub in_map : (x : A) (xs : List A) → x ∈ xs → f x ∈ map f xs
  in_map x [] h = absurd h
  in_map x (z ∷ xs) (inl e) = inl (ap f e)
  in_map x (z ∷ xs) (inr h) = inr (in_map x xs h)

  pub from_map : (y : B) (xs : List A) → y ∈ map f xs → (x : A) × (x ∈ xs) × (y ≡ f x)
  from_map y [] h = absurd h
  from_map y (z ∷ xs) (inl e) = (z, inl refl, e)
  from_map y (z ∷ xs) (inr h) = let on = from_map y xs h in (on.0, inr on.1, on.2)

module _ {A B : Type 0} (f : A → List B) where
  pub in_joined : (x : A) (xs : List A) (y : B) → x ∈ xs → y ∈ f x → y ∈ flat_map f xs
  in_joined x [] y h i = absurd h
  in_joined x (z ∷ xs) y (inl e) i = in_left y (f z) (flat_map f xs) (subst (λ w. y ∈ f w) e i)
  in_joined x (z ∷ xs) y (inr h) i = in_right y (f z) (flat_map f xs) (in_joined x xs y h i)

  pub from_joined : (xs : List A) (y : B) → y ∈ flat_map f xs → (x : A) × (x ∈ xs) × (y ∈ f x)
  from_joined [] y h = absurd h
  from_joined (z ∷ xs) y h =
      elim (in_either y (f z) (flat_map f xs) h) [
        | inl i ↦ (z, inl refl, i)
        | inr i ↦ let on = from_joined xs y i in (on.0, inr on.1, on.2)
      ]

-- the way taken is free
way_taken : (s : Statement) (σ : Run) → passes s σ ∈ ways s
way_taken Statement.Stop σ = inl refl
way_taken (Statement.Set n a o b) σ = inl refl
way_taken (Statement.Emit a) σ = inl refl
way_taken (Statement.Skip k t) σ = elim (holds σ t) as (λ b. cond b k.count 0 ∈ (0 ∷ k.count ∷ [])) [ true ↦ inr (inl refl) | false ↦ inl refl ]
way_taken (Statement.Next t) σ = inl refl
way_taken (Statement.Choose c t u) σ = inl refl

pub takes_a_path : TakesAPath
takes_a_path k [] σ = inl refl
takes_a_path (suc k) (s ∷ rest) σ = takes_a_path k rest σ
takes_a_path zero (s ∷ rest) σ =
    in_map (λ π. s ∷ π) _ _ (in_joined (λ k. paths k rest) (passes s σ) (ways s) _ (way_taken s σ) (takes_a_path (passes s σ) rest (after s σ)))

pub paths_short : PathsShort
paths_short k [] π (inl e) = omega (arith, ap length e)
paths_short k [] π (inr h) = absurd h
paths_short (suc k) (s ∷ rest) π h = let on = paths_short k rest π h in omega arith
paths_short zero (s ∷ rest) π h =
    let p = from_map (λ ρ. s ∷ ρ) π (flat_map (λ k. paths k rest) (ways s)) h in
    let q = from_joined (λ k. paths k rest) (ways s) p.0 p.1 in
    omega (arith, ap length p.2, paths_short q.0 rest p.0 q.2)

-- the write-after-read rule

to_tests : (before : List Statement) (s : Statement) (behind : List Statement) (v : ℕ)
    → reads s v ≡ true → written before v ≡ false → written (s ∷ behind) v ≡ true
    → (read_first (before ++ s ∷ behind) v && written (before ++ s ∷ behind) v) ≡ true
to_tests [] s behind v r u w = and_from _ _ (or_left _ _ r) w
to_tests (b ∷ before) s behind v r u w =
    let p = or_parts (writes b v) _ u in
    let on = and_parts (read_first (before ++ s ∷ behind) v) _ (to_tests before s behind v r p.1 w) in
    and_from _ _ (or_right (reads b v) _ (and_from _ _ (not_from_false _ p.0) on.0)) (or_right (writes b v) _ on.1)

logged_later : (s : Statement) (π : List Statement) (v : ℕ) → writes s v ≡ false → LoggedOn π v → LoggedOn (s ∷ π) v
logged_later s π v u on = record {
  before = s ∷ on.before;
  reader = on.reader;
  behind = on.behind;
  parts = ap (λ xs. s ∷ xs) on.parts;
  reads_it = on.reads_it;
  unwritten = or_from _ _ u on.unwritten;
  then_written = on.then_written;
}

from_tests : (π : List Statement) (v : ℕ) → read_first π v ≡ true → written π v ≡ true → LoggedOn π v
from_tests [] v r w = absurd (false≢true r)
from_tests (s ∷ π) v r w =
    elim (cases_Bool (reads s v)) [
      | inl here ↦ record { before = []; reader = s; behind = π; parts = refl; reads_it = here; unwritten = refl; then_written = w }
      | inr gone ↦
          let later : (not (writes s v) && read_first π v) ≡ true = rw gone at r in
          let p = and_parts _ _ later in
          let u : writes s v ≡ false = not-true _ p.0 in
          logged_later s π v u (from_tests π v p.1 (rw u at w))
    ]

pub unlogged_unread : UnloggedUnread
unlogged_unread task v π is_path w unlogged =
    elim (cases_Bool (read_first π v)) [
      | inl r ↦ absurd (unlogged (π, is_path, from_tests π v r w))
      | inr r ↦ r
    ]

-- a test that passes at some element of a list
pub any_from : {A : Type 0} (p : A → Bool) (x : A) (xs : List A) → x ∈ xs → p x ≡ true → list_any p xs ≡ true
any_from p x [] h t = absurd h
any_from p x (y ∷ ys) (inl e) t = or_left _ _ (ap p (sym e) ∙ t)
any_from p x (y ∷ ys) (inr h) t = or_right _ _ (any_from p x ys h t)

pub any_to : {A : Type 0} (p : A → Bool) (xs : List A) → list_any p xs ≡ true → (x : A) × (x ∈ xs) × (p x ≡ true)
any_to p [] h = absurd (false≢true h)
any_to p (y ∷ ys) h =
    elim (or_cases (p y) (list_any p ys) h) [
      | inl t ↦ (y, inl refl, t)
      | inr t ↦ let on = any_to p ys t in (on.0, inr on.1, on.2)
    ]

pub logged_tested : LoggedTested
logged_tested task v =
    let test : List Statement → Bool = λ π. read_first π v && written π v in (
      λ l.
          let on = l.2 in
          any_from test l.0 (paths 0 task) l.1 (rw on.parts (to_tests on.before on.reader on.behind v on.reads_it on.unwritten on.then_written)),
      λ h.
          let on = any_to test (paths 0 task) h in
          let p = and_parts _ _ on.2 in
          (on.0, on.1, from_tests on.0 v p.0 p.1),
    )
