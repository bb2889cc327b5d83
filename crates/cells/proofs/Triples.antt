-- Three cells of any unit through a cut: what is under way reads as the old unit or the new, and each store that mends it keeps it so.
use Rattle.std.proofs.Common.{◌≡◌, Bool, true, false, [], sym, refl, ◌∙◌, subst, inl, inr, ⊎_elim}
use Rattle.std.proofs.lemmas.Bool.Decides.{not_from_Decides}
use Rattle.cells.specs.declared.triple.Triple.{Triple}
use Rattle.cells.specs.Triple.{Either, Equal, Underway, mends, mending, reads, stores, to_all, vote}
use Rattle.cells.specs.Laws.{MendsThroughACut, ReadsOldOrNew, Safe, StoresThroughACut, puts}

-- equal cells are under way from what they hold to anything, and so is every part of a store to all three
pub safe_all : {T : Type 0} (old new : T) (t : Triple T) → Equal t → t.b ≡ old → Safe old new t (to_all new)
safe_all old new t e is =
    (λ x. inl (e.1, inl is), ((λ x. inr (inr (inr refl, inl (sym e.1 ∙ is)))), (λ x. inr (inl (refl, inr refl)), tt)))

module _ {T : Type 0} (same : T → T → Bool) (yes : (x y : T) → same x y ≡ true → x ≡ y) (no : (x y : T) → same x y ≡ false → x ≡ y → ⊥) (old new : T) where
  -- by what the comparisons of B with C and of A with B answered
  read_by : (bc : Bool) (t : Triple T) → same t.b t.c ≡ bc → Underway old new t → Either old new (vote bc t)
  read_by true t e u = ⊎_elim (λ k. k.1) (⊎_elim (λ k. subst (Either old new) k.0 k.1) (λ k. subst (Either old new) (sym (yes t.b t.c e)) k.1)) u
  read_by false t e u = ⊎_elim (λ k. absurd (no t.b t.c e k.0)) (⊎_elim (λ k. k.1) (λ k. k.0)) u

  -- they read as the old unit or the new
  pub reads_either : (t : Triple T) → Underway old new t → Either old new (reads same t)
  reads_either t u = read_by (same t.b t.c) t refl u

  safe_by : (bc ab : Bool) (t : Triple T) → same t.b t.c ≡ bc → same t.a t.b ≡ ab → Underway old new t → Safe old new t (stores (mending bc ab t))
  safe_by true true t e f u = tt
  safe_by true false t e f u = (λ x. inl (yes t.b t.c e, read_by true t e u), tt)
  safe_by false true t e f u = (λ x. inr (inl (yes t.a t.b f, read_by false t e u)), tt)
  safe_by false false t e f u = (
    λ x. inr (inr (read_by false t e u, ⊎_elim (λ k. absurd (no t.b t.c e k.0)) (⊎_elim (λ k. absurd (no t.a t.b f k.0)) (λ k. k.1)) u)),
    (λ x. inr (inl (refl, read_by false t e u)), tt),
  )

  -- each store that mends them keeps them under way
  pub safe_mends : (t : Triple T) → Underway old new t → Safe old new t (mends same t)
  safe_mends t u = safe_by (same t.b t.c) (same t.a t.b) t refl refl u

module _ {T : Type 0} (same : T → T → Bool) (yes : (x y : T) → same x y ≡ true → x ≡ y) where
  equal_by : (bc ab : Bool) (t : Triple T) → same t.b t.c ≡ bc → same t.a t.b ≡ ab → Equal (puts t (stores (mending bc ab t)))
  equal_by true true t e f = (yes t.a t.b f, yes t.b t.c e)
  equal_by true false t e f = (refl, yes t.b t.c e)
  equal_by false true t e f = (yes t.a t.b f, sym (yes t.a t.b f))
  equal_by false false t e f = (refl, refl)

  -- mended, they are equal
  pub mends_equal : (t : Triple T) → Equal (puts t (mends same t))
  mends_equal t = equal_by (same t.b t.c) (same t.a t.b) t refl refl

  kept_by : (bc ab : Bool) (t : Triple T) → same t.b t.c ≡ bc → same t.a t.b ≡ ab → (puts t (stores (mending bc ab t))).b ≡ vote bc t
  kept_by true true t e f = refl
  kept_by true false t e f = refl
  kept_by false true t e f = sym (yes t.a t.b f)
  kept_by false false t e f = refl

  -- and hold what they read as
  pub mends_kept : (t : Triple T) → (puts t (mends same t)).b ≡ reads same t
  mends_kept t = kept_by (same t.b t.c) (same t.a t.b) t refl refl

-- equal cells want no store
pub mends_none : {T : Type 0} (same : T → T → Bool) (self : (x y : T) → x ≡ y → same x y ≡ true) (t : Triple T) → Equal t → mends same t ≡ []
mends_none same self t e = rw (self t.b t.c e.1, self t.a t.b e.0)

pub reads_old_or_new : (T : Type 0) → ReadsOldOrNew T
reads_old_or_new T same test old new t u = reads_either same (λ x y. (test x y).0) (λ x y. not_from_Decides (same x y) (test x y)) old new t u

pub stores_through_a_cut : (T : Type 0) → StoresThroughACut T
stores_through_a_cut T old new t e is = (safe_all old new t e is, (refl, refl), refl)

pub mends_through_a_cut : (T : Type 0) → MendsThroughACut T
mends_through_a_cut T same test old new t u = (
  safe_mends same (λ x y. (test x y).0) (λ x y. not_from_Decides (same x y) (test x y)) old new t u,
  mends_equal same (λ x y. (test x y).0) t,
  mends_kept same (λ x y. (test x y).0) t,
)
