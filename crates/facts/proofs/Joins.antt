-- What the laws of a join give of the join of many facts.
use Rattle.std.proofs.Common.{◌≡◌, ◌⊎◌, List, [], ◌∷◌, Some, sym, refl, ap, ◌∙◌, inl, inr}
use Rattle.std.specs.List.{fold, reduce}
use Rattle.program.specs.Paths.{◌∈◌}
use Rattle.facts.specs.Joins.{Made, IsJoin}
use Rattle.facts.specs.Joins.Made.{one, both}

-- the laws of a join
abbrev pub Associative : {F : Type 0} → (F → F → F) → Type 0
Associative {F} join = (a b c : F) → join (join a b) c ≡ join a (join b c)

abbrev pub Commutative : {F : Type 0} → (F → F → F) → Type 0
Commutative {F} join = (a b : F) → join a b ≡ join b a

abbrev pub Idempotent : {F : Type 0} → (F → F → F) → Type 0
Idempotent {F} join = (a : F) → join a a ≡ a

weaken : {F : Type 0} {join : F → F → F} {P Q : F → Type 0} → ((f : F) → P f → Q f) → {r : F} → Made join P r → Made join Q r
weaken w (one {f = f} p) = one (w f p)
weaken w (both a b) = both (weaken w a) (weaken w b)

-- one of the facts that it is made of
pub some_of : {F : Type 0} {join : F → F → F} {P : F → Type 0} {r : F} → Made join P r → (f : F) × P f
some_of (one {f = f} p) = (f, p)
some_of (both a b) = some_of a

-- the join of the same facts, said in another way
pub same_join : {F : Type 0} {join : F → F → F} {P Q : F → Type 0} {r : F} → ((f : F) → P f → Q f) → ((f : F) → Q f → P f) → IsJoin join P r → IsJoin join Q r
same_join to from j = record { made = weaken to j.made; covers = λ f q. j.covers f (from f q) }

-- a fact of a part, where each fact f that P holds of stands for a part
abbrev pub InPart : {F : Type 0} (P : F → Type 0) → ((f : F) → P f → F → Type 0) → F → Type 0
InPart {F} P Q g = (f : F) × (p : P f) × Q f p g

-- the join of joins
module _ {F : Type 0} {join : F → F → F} (associative : Associative join) {P : F → Type 0} (Q : (f : F) → P f → F → Type 0) (parts : (f : F) (p : P f) → IsJoin join (Q f p) f) where
  made_of_parts : {r : F} → Made join P r → Made join (InPart P Q) r
  made_of_parts (one {f = f} p) = weaken (λ g q. (f, p, q)) (parts f p).made
  made_of_parts (both a b) = both (made_of_parts a) (made_of_parts b)

  pub join_of_parts : {r : F} → IsJoin join P r → IsJoin join (InPart P Q) r
  join_of_parts {r} j = record {
    made = made_of_parts j.made;
    covers = λ g w.
        let f = w.0 in
        let here = j.covers f w.1 in
        ap (join g) (sym here) ∙ sym (associative g f r) ∙ ap (λ x. join x r) ((parts f w.1).covers g w.2) ∙ here;
  }

-- the effect of a fact that P holds of
abbrev pub AfterOne : {F : Type 0} → (F → F) → (F → Type 0) → F → Type 0
AfterOne {F} effect P g = (f : F) × P f × (g ≡ effect f)

-- the join of the effects is the effect of the join
module _ {F : Type 0} {join : F → F → F} (effect : F → F) (distributes : (a b : F) → effect (join a b) ≡ join (effect a) (effect b)) {P : F → Type 0} where
  made_after : {r : F} → Made join P r → Made join (AfterOne effect P) (effect r)
  made_after (one {f = f} p) = one (f, p, refl)
  made_after (both {f = f} {g = g} a b) = rw (distributes f g) (both (made_after a) (made_after b))

  pub join_after : {r : F} → IsJoin join P r → IsJoin join (AfterOne effect P) (effect r)
  join_after {r} j = record {
    made = made_after j.made;
    covers = λ g w. ap (λ x. join x (effect r)) w.2 ∙ sym (distributes w.0 r) ∙ ap effect (j.covers w.0 w.1);
  }

module _ {F : Type 0} {join : F → F → F} (idempotent : Idempotent join) where
  -- the join of one fact
  pub join_of_one : {P : F → Type 0} (r : F) → P r → ((f : F) → P f → f ≡ r) → IsJoin join P r
  join_of_one r p only = record { made = one p; covers = λ f q. ap (λ x. join x r) (only f q) ∙ idempotent r }

module _ {F : Type 0} {join : F → F → F} (associative : Associative join) (commutative : Commutative join) where
  left_in : (f a b : F) → join f a ≡ a → join f (join a b) ≡ join a b
  left_in f a b h = sym (associative f a b) ∙ ap (λ x. join x b) h

  right_in : (f a b : F) → join f b ≡ b → join f (join a b) ≡ join a b
  right_in f a b h = ap (join f) (commutative a b) ∙ left_in f b a h ∙ commutative b a

  -- the join of two joins is the join of the facts of both
  pub join_of_two : {P Q : F → Type 0} {a b : F} → IsJoin join P a → IsJoin join Q b → IsJoin join (λ f. P f ⊎ Q f) (join a b)
  join_of_two {P} {Q} {a} {b} j k = record {
    made = both (weaken (λ f. inl) j.made) (weaken (λ f. inr) k.made);
    covers = λ f h. elim h [ inl p ↦ left_in f a b (j.covers f p) | inr q ↦ right_in f a b (k.covers f q) ];
  }

  -- the join is the least that covers all
  least : {P : F → Type 0} {r : F} → Made join P r → (u : F) → ((f : F) → P f → join f u ≡ u) → join r u ≡ u
  least (one {f = f} p) u all = all f p
  least (both {f = f} {g = g} a b) u all = associative f g u ∙ ap (join f) (least b u all) ∙ least a u all

  -- so there is one
  one_join : {P : F → Type 0} {r s : F} → IsJoin join P r → IsJoin join P s → r ≡ s
  one_join {r = r} {s = s} j k = sym (least k.made r j.covers) ∙ commutative s r ∙ least j.made s k.covers

  -- the join of the facts of a list, from its first on
  fold_covers : (f a : F) (fs : List F) → join f a ≡ a → join f (fold join a fs) ≡ fold join a fs
  fold_covers f a [] h = h
  fold_covers f a (g ∷ fs) h = fold_covers f (join a g) fs (left_in f a g h)

  fold_made : {P : F → Type 0} (a : F) (fs : List F) → Made join P a → ((f : F) → f ∈ fs → P f) → Made join P (fold join a fs)
  fold_made a [] m h = m
  fold_made a (g ∷ fs) m h = fold_made (join a g) fs (both m (one (h g (inl refl)))) (λ f i. h f (inr i))

  module _ (idempotent : Idempotent join) where
    fold_covers_all : (a : F) (fs : List F) (f : F) → f ∈ fs → join f (fold join a fs) ≡ fold join a fs
    fold_covers_all a [] f h = absurd h
    fold_covers_all a (g ∷ fs) f (inl e) = fold_covers f (join a g) fs (right_in f a g (ap (λ x. join x g) e ∙ idempotent g))
    fold_covers_all a (g ∷ fs) f (inr i) = fold_covers_all (join a g) fs f i

    fold_is_join : (a : F) (fs : List F) → IsJoin join (λ f. f ∈ (a ∷ fs)) (fold join a fs)
    fold_is_join a fs = record {
      made = fold_made a fs (one (inl refl)) (λ f i. inr i);
      covers = λ f h. elim h [ inl e ↦ fold_covers f a fs (ap (λ x. join x a) e ∙ idempotent a) | inr i ↦ fold_covers_all a fs f i ];
    }

    pub join_of_list : (fs : List F) (r : F) → IsJoin join (λ f. f ∈ fs) r → Some r ≡ reduce join fs
    join_of_list [] r j = absurd (some_of j.made).1
    join_of_list (a ∷ fs) r j = ap Some (one_join j (fold_is_join a fs))
