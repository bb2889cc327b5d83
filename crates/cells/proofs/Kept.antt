-- The words mended one after the other: what is kept as long as nothing is refused, and where it ends.
use Rattle.std.proofs.Common.{◌≡◌, ℕ, zero, suc, ◌+◌, ◌<◌, ◌≤◌, true, List, [], ◌∷◌, length, Ok, Err, Result, sym, refl, ap, ◌∙◌, subst, ⊎_elim, add-one, arith, length-set}
use Rattle.std.proofs.lemmas.Bool.{lt-ltb, le-ltb, cases_lt, cases_eq}
use Rattle.memory.specs.declared.fault.Fault.{Fault}
use Rattle.memory.specs.declared.fault.Fault.TheVariants as fault
use Rattle.memory.specs.declared.fault.Raised.{Raised}
use Rattle.memory.specs.Value.{Value, cut_at, stored, write_answer, written}
use Rattle.cells.specs.Triple.{To}
use Rattle.cells.specs.Cells.{Outcome, mended, mended_below, place_of, stored_to}
use Rattle.cells.specs.Three.{Follows, raised}
use Rattle.cells.proofs.Stores.{first_made, first_refused}

-- lit, and as long as it was
pub record Kept (v after : Value) : Type 0 where
  pub lit : after.lit ≡ true
  pub long : length after.words ≡ length v.words

-- the first n words are mended, and nothing was refused
pub record Mending (v : Value) (n : ℕ) (after : Value) : Type 0 where
  pub so_far : mended_below v n ≡ record { answer = Ok tt; value = after }
  pub kept : Kept v after

-- a refused store and a made one are two
refused_not_made : (o : Outcome) (e : Fault) (after : Value) → o ≡ record { answer = Err e; value = after } → o.answer ≡ Ok tt → ⊥
refused_not_made o e after is ok = cc

stored_kept : (ss : List (To ℕ)) (v : Value) (p : ℕ) → v.lit ≡ true → (stored_to v p ss).answer ≡ Ok tt → Kept v (stored_to v p ss).value
stored_kept [] v p lit ok = record { lit = lit; long = refl }
stored_kept (s ∷ rest) v p lit ok =
    let at : ℕ = place_of s.cell p in
    ⊎_elim
    (λ there.
    ⊎_elim
    (λ low.
    let e : write_answer v (place_of s.cell p) ≡ Err (fault.Cut (cut_at v.kind v.charge (place_of s.cell p))) = rw (lit, lt-ltb (place_of s.cell p) (length v.words) there, lt-ltb v.charge v.kind.price low) in
    absurd (refused_not_made _ _ _ (first_refused v p s rest _ e) ok))
    (λ paid.
    let e : write_answer v (place_of s.cell p) ≡ Ok tt = rw (lit, lt-ltb (place_of s.cell p) (length v.words) there, le-ltb v.charge v.kind.price paid) in
    let w : written v (place_of s.cell p) s.unit ≡ stored v (place_of s.cell p) s.unit = rw (lit, lt-ltb (place_of s.cell p) (length v.words) there, le-ltb v.charge v.kind.price paid) in
    let is : stored_to v p (s ∷ rest) ≡ stored_to (stored v (place_of s.cell p) s.unit) p rest = first_made v p s rest e ∙ ap (λ (x : Value). stored_to x p rest) w in
    let k = stored_kept rest (stored v (place_of s.cell p) s.unit) p refl (sym (ap (λ (o : Outcome). o.answer) is) ∙ ok) in
    subst (λ (o : Outcome). Kept v o.value) (sym is) (record { lit = k.lit; long = k.long ∙ length-set v.words (place_of s.cell p) s.unit }))
    (cases_lt v.charge v.kind.price))
    (λ out.
    let e : write_answer v (place_of s.cell p) ≡ Err fault.Outside = rw (lit, le-ltb (place_of s.cell p) (length v.words) out) in
    absurd (refused_not_made _ _ _ (first_refused v p s rest _ e) ok))
    (cases_lt (place_of s.cell p) (length v.words))

-- an answer on its way up tells whether the stores were made
pub raised_ok : (r : Result (Unit {0}) Fault) → Ok tt ≡ raised r → r ≡ Ok tt
raised_ok (Ok u) e = refl
raised_ok (Err f) e = cc

raised_err : (r : Result (Unit {0}) Fault) (y : Raised) → Err y ≡ raised r → (f : Fault) × (r ≡ Err f)
raised_err (Ok u) y e = cc
raised_err (Err f) y e = (f, refl)

-- one word after those below n, if nothing was refused there
pub then_mended : (v u : Value) (n : ℕ) → mended_below v n ≡ record { answer = Ok tt; value = u } → mended_below v (suc n) ≡ mended u n
then_mended v u n is = ap (λ (o : Outcome). elim o.answer [ Ok x ↦ mended o.value n | Err e ↦ o ]) is

pub mending_more : (v : Value) (n : ℕ) (u after : Value) → Mending v n u → Follows (mended u n) (Ok tt) after → Mending v (n + 1) after
mending_more v n u after m f =
    let ok = raised_ok (mended u n).answer f.answer in
    let value = f.value in
    let k = stored_kept _ u n m.kept.lit ok in
    let made : mended u n ≡ record { answer = Ok tt; value = after } = ap (λ (r : Result (Unit {0}) Fault). record { answer = r; value = (mended u n).value }) ok ∙ ap (λ (x : Value). record { answer = Ok tt; value = x }) (sym value) in
    record {
      so_far = rw add-one (then_mended v u n m.so_far ∙ made);
      kept = record { lit = ap (λ (x : Value). x.lit) value ∙ k.lit; long = ap (λ (x : Value). length x.words) value ∙ k.long ∙ m.kept.long };
    }

-- a refusal ends it
stays : (v : Value) (n m : ℕ) (f : Fault) → (mended_below v n).answer ≡ Err f → n ≤ m → mended_below v m ≡ mended_below v n
stays v n zero f e h = let z : n ≡ 0 = omega arith in ap (mended_below v) (sym z)
stays v n (suc m) f e h =
    ⊎_elim
    (λ is. ap (mended_below v) is)
    (λ ne.
    let before = stays v n m f e (omega arith) in
    let stopped : (mended_below v m).answer ≡ Err f = ap (λ (o : Outcome). o.answer) before ∙ e in
    ap (λ (r : Result (Unit {0}) Fault). elim r [ Ok x ↦ mended (mended_below v m).value m | Err g ↦ mended_below v m ]) stopped ∙ before)
    (cases_eq (suc m) n)

pub mending_ends : (v : Value) (n m : ℕ) (u after : Value) (y : Raised) → Mending v n u → n < m → Follows (mended u n) (Err y) after → Follows (mended_below v m) (Err y) after
mending_ends v n m u after y k h f =
    let next = then_mended v u n k.so_far in
    let e = raised_err (mended u n).answer y f.answer in
    let end = stays v (suc n) m e.0 (ap (λ (o : Outcome). o.answer) next ∙ e.1) (omega arith) in
    subst (λ (o : Outcome). Follows o (Err y) after) (sym (end ∙ next)) f
