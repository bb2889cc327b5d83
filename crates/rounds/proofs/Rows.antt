-- The first offence in a row is found by going along it.
use Rattle.std.proofs.Common.{◌≡◌, ◌↔◌, Option, Some, None, List, [], ◌∷◌, ◌++◌, refl, sym, ap, ◌∙◌, ◌⊎◌, inl, inr}
use Rattle.std.specs.Option.{option_or}
use Rattle.text.specs.declared.refusal.Refusal.{Refusal}
use Rattle.rounds.specs.Laws.{Judgement, NoneOffends, IsFirst}

-- There is no offence exactly when P holds, and r is told exactly when Q holds of it.
pub record Tells (o : Option Refusal) (P : Type 0) (Q : Refusal → Type 0) : Type 0 where
  pub accepted : (o ≡ None) ↔ P
  pub refused : (r : Refusal) → (o ≡ Some r) ↔ Q r

-- one offence before another
pub then_tells : {P P' : Type 0} {Q Q' : Refusal → Type 0} (o o' : Option Refusal) → Tells o P Q → Tells o' P' Q' → Tells (option_or o o') (P × P') (λ r. Q r ⊎ (P × Q' r))
then_tells None o' t u = record {
  accepted = (λ e. (t.accepted.0 refl, u.accepted.0 e), λ p. u.accepted.1 p.1);
  refused = λ r. (λ e. inr (t.accepted.0 refl, (u.refused r).0 e), elim [ inl q ↦ absurd (let e = (t.refused r).1 q in cc) | inr p ↦ (u.refused r).1 p.1 ]);
}
then_tells (Some s) o' t u = record {
  accepted = (λ e. absurd cc, λ p. t.accepted.1 p.0);
  refused = λ r. (λ e. inl ((t.refused r).0 e), elim [ inl q ↦ (t.refused r).1 q | inr p ↦ absurd (let e = t.accepted.1 p.0 in cc) ]);
}

-- the same, said otherwise
pub tells_as : {o : Option Refusal} {P P' : Type 0} {Q Q' : Refusal → Type 0} → Tells o P Q → P ↔ P' → ((r : Refusal) → Q r ↔ Q' r) → Tells o P' Q'
tells_as t p q = record {
  accepted = (λ e. p.0 (t.accepted.0 e), λ h. t.accepted.1 (p.1 h));
  refused = λ r. (λ e. (q r).0 ((t.refused r).0 e), λ h. (t.refused r).1 ((q r).1 h));
}

pub tells_none : Tells None (Unit {0}) (λ r. ⊥)
tells_none = record { accepted = (λ e. tt, λ h. refl); refused = λ r. (λ e. cc, λ h. absurd h) }

pub tells_itself : (o : Option Refusal) → Tells o (o ≡ None) (λ r. o ≡ Some r)
tells_itself o = record { accepted = (λ e. e, λ e. e); refused = λ r. (λ e. e, λ e. e) }

no_parts : {A : Type 0} (b : List A) (x : A) (c : List A) → [] ≡ b ++ x ∷ c → ⊥
no_parts [] x c e = cc
no_parts (y ∷ b) x c e = cc

module _ {A : Type 0} (judge : Judgement A) (x : A) (xs : List A) where
  abbrev later : Judgement A
  later b = judge (x ∷ b)

  none_of : (judge [] x xs ≡ None) × NoneOffends later xs → NoneOffends judge (x ∷ xs)
  none_of h = record { none = each }
    where
      each : (b : List A) (y : A) (c : List A) → x ∷ xs ≡ b ++ y ∷ c → judge b y c ≡ None
      each [] y c e = let first = h.0 in cc
      each (z ∷ b) y c e =
          let rest : xs ≡ b ++ y ∷ c = cc in
          let same : judge (x ∷ b) y c ≡ None = h.1.none b y c rest in
          cc

  none_in : NoneOffends judge (x ∷ xs) → (judge [] x xs ≡ None) × NoneOffends later xs
  none_in n = (n.none [] x xs refl, record { none = λ b y c e. n.none (x ∷ b) y c (ap (λ l. x ∷ l) e) })

  here_first : {r : Refusal} → judge [] x xs ≡ Some r → IsFirst judge (x ∷ xs) r
  here_first o = record { before = []; here = x; behind = xs; parts = refl; offends = o; none_before = λ b y c e. absurd (no_parts b y c e) }

  later_first : {r : Refusal} → judge [] x xs ≡ None → IsFirst later xs r → IsFirst judge (x ∷ xs) r
  later_first n f = record { before = x ∷ f.before; here = f.here; behind = f.behind; parts = ap (λ l. x ∷ l) f.parts; offends = f.offends; none_before = each }
    where
      each : (b : List A) (y : A) (c : List A) → x ∷ f.before ≡ b ++ y ∷ c → judge b y (c ++ f.here ∷ f.behind) ≡ None
      each [] y c e =
          let rest : c ++ f.here ∷ f.behind ≡ xs = ap (λ l. l ++ f.here ∷ f.behind) (let same : c ≡ f.before = cc in same) ∙ sym f.parts in
          cc
      each (z ∷ b) y c e =
          let same : judge (x ∷ b) y (c ++ f.here ∷ f.behind) ≡ None = f.none_before b y c (let rest : f.before ≡ b ++ y ∷ c = cc in rest) in
          cc

  first_by : {r : Refusal} (before : List A) (here : A) (behind : List A) → x ∷ xs ≡ before ++ here ∷ behind → judge before here behind ≡ Some r
      → ((b : List A) (y : A) (c : List A) → before ≡ b ++ y ∷ c → judge b y (c ++ here ∷ behind) ≡ None) → (judge [] x xs ≡ Some r) ⊎ ((judge [] x xs ≡ None) × IsFirst later xs r)
  first_by [] here behind parts offends none_before = inl cc
  first_by {r} (z ∷ b) here behind parts offends none_before =
      let first : judge [] z (b ++ here ∷ behind) ≡ None = none_before [] z b refl in
      let same : judge (x ∷ b) here behind ≡ Some r = cc in
      inr (cc, record { before = b; here = here; behind = behind; parts = cc; offends = same; none_before = λ d y c e. let n = none_before (z ∷ d) y c (ap (λ l. z ∷ l) e) in cc })

  first_as : (r : Refusal) → ((judge [] x xs ≡ Some r) ⊎ ((judge [] x xs ≡ None) × IsFirst later xs r)) ↔ IsFirst judge (x ∷ xs) r
  first_as r = (elim [ inl o ↦ here_first o | inr p ↦ later_first p.0 p.1 ], λ f. first_by f.before f.here f.behind f.parts f.offends f.none_before)

-- the first offence of a row
abbrev pub first_in : {A : Type 0} → Judgement A → List A → Option Refusal
first_in judge [] = None
first_in judge (x ∷ xs) = option_or (judge [] x xs) (first_in (λ b. judge (x ∷ b)) xs)

pub row_tells : {A : Type 0} (judge : Judgement A) (row : List A) → Tells (first_in judge row) (NoneOffends judge row) (IsFirst judge row)
row_tells judge [] = tells_as tells_none (λ u. record { none = λ b x c e. absurd (no_parts b x c e) }, λ n. tt) (λ r. (λ h. absurd h, λ f. no_parts f.before f.here f.behind f.parts))
row_tells judge (x ∷ xs) =
    tells_as (then_tells (judge [] x xs) (first_in (later judge x xs) xs) (tells_itself (judge [] x xs)) (row_tells (later judge x xs) xs)) (none_of judge x xs, none_in judge x xs) (first_as judge x xs)
