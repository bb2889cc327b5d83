-- The facts of the statements that lead to a place, taken from one after the other.
use Rattle.std.proofs.Common.{◌≡◌, ℕ, ◌+◌, ◌-◌, ◌<◌, ◌≤◌, true, false, cond, eqb, ◌⊎◌, List, length, Some, sym, refl, ◌∙◌, subst, inl, inr, arith}
use Rattle.std.specs.List.{list_any, slice_get}
use Rattle.std.proofs.lemmas.Bool.{cases_Bool, cases_eq, false≢true, eqb-true, eq-eqb}
use Rattle.program.specs.declared.statement.Statement.{Statement}
use Rattle.program.specs.Shapes.{ways}
use Rattle.program.specs.Paths.{◌∈◌}
use Rattle.laws.proofs.Paths.{any_from, any_to}
use Rattle.facts.specs.Joins.{IsJoin}
use Rattle.facts.specs.Passes.{LeadsTo}
use Rattle.facts.proofs.Joins.{Associative, Commutative, Idempotent, same_join, join_of_one, join_of_two}
use Rattle.facts.proofs.Arrivals.{same_some, element}

-- f left the statement just before `at`, or one below place m that leads there
abbrev pub LeadsBelow : {F : Type 0} → List Statement → List F → ℕ → ℕ → F → Type 0
LeadsBelow task after at m f = (c : LeadsTo task after at f) × ((c.from ≡ at - 1) ⊎ (c.from < m))

-- at most fifteen statements are passed over
passed_few : (s : Statement) (k : ℕ) → k ∈ ways s → k ≤ 15
passed_few Statement.Stop k (inl e) = omega (arith, e)
passed_few Statement.Stop k (inr h) = absurd h
passed_few (Statement.Set n a o b) k (inl e) = omega (arith, e)
passed_few (Statement.Set n a o b) k (inr h) = absurd h
passed_few (Statement.Emit a) k (inl e) = omega (arith, e)
passed_few (Statement.Emit a) k (inr h) = absurd h
passed_few (Statement.Skip r t) k (inl e) = omega (arith, e)
passed_few (Statement.Skip r t) k (inr (inl e)) = let n = r.near in omega (arith, e)
passed_few (Statement.Skip r t) k (inr (inr h)) = absurd h
passed_few (Statement.Next t) k (inl e) = omega (arith, e)
passed_few (Statement.Next t) k (inr h) = absurd h
passed_few (Statement.Choose c t u) k (inl e) = omega (arith, e)
passed_few (Statement.Choose c t u) k (inr h) = absurd h

-- every statement may pass over none
passes_none : (s : Statement) → 0 ∈ ways s
passes_none Statement.Stop = inl refl
passes_none (Statement.Set n a o b) = inl refl
passes_none (Statement.Emit a) = inl refl
passes_none (Statement.Skip r t) = inl refl
passes_none (Statement.Next t) = inl refl
passes_none (Statement.Choose c t u) = inl refl

-- the test finds a member
found : (n : ℕ) (ks : List ℕ) → list_any (λ k. eqb k n) ks ≡ true → n ∈ ks
found n ks h = let on = any_to (λ k. eqb k n) ks h in subst (λ k. k ∈ ks) (eqb-true on.0 n on.2) on.1

finds : (n : ℕ) (ks : List ℕ) → n ∈ ks → list_any (λ k. eqb k n) ks ≡ true
finds n ks i = any_from (λ k. eqb k n) n ks i (eq-eqb n n refl)

module _ {F : Type 0} (join : F → F → F) (task : List Statement) (after : List F) (at : ℕ) where
  abbrev leading : (m : ℕ) (s : Statement) (k : ℕ) (f : F) → slice_get task m ≡ Some s → k ∈ ways s → at ≡ m + 1 + k → slice_get after m ≡ Some f → LeadsTo task after at f
  leading m s k f st i l e = record { from = m; statement = s; passed = k; stands = st; may_pass = i; leads = l; left = e }

  -- a statement more than sixteen places back does not lead here
  pub leads_first : Idempotent join → (r : F) → 0 < at → at ≤ length task → slice_get after (at - 1) ≡ Some r → IsJoin join (LeadsBelow task after at (at - 16)) r
  leads_first idempotent r pos room here =
      let s = element task (at - 1) (omega arith) in
      join_of_one idempotent r (leading (at - 1) s.0 0 r s.1 (passes_none s.0) (omega arith) here, inl refl) only
    where
      only : (f : F) → LeadsBelow task after at (at - 16) f → f ≡ r
      only f (c, inl e) = same_some (subst (λ i. slice_get after i ≡ Some f) e c.left) here
      only f (c, inr l) = let n = passed_few c.statement c.passed c.may_pass in absurd (omega (arith, c.leads))

  -- past the statement at place m, which leads here or does not
  module _ (m : ℕ) (s : Statement) (r : F) (low : m < at - 1) (st : slice_get task m ≡ Some s) where
    leads_more : (f : F) → slice_get after m ≡ Some f
        → Associative join → Commutative join → Idempotent join
        → list_any (λ k. eqb k (at - 1 - m)) (ways s) ≡ true → IsJoin join (LeadsBelow task after at m) r → IsJoin join (LeadsBelow task after at (m + 1)) (join r f)
    leads_more f left associative commutative idempotent test j = same_join to from (join_of_two associative commutative j (join_of_one idempotent f refl (λ g e. e)))
      where
        this : LeadsBelow task after at (m + 1) f
        this = (leading m s (at - 1 - m) f st (found (at - 1 - m) (ways s) test) (omega arith) left, inr (omega arith))

        to : (g : F) → LeadsBelow task after at m g ⊎ (g ≡ f) → LeadsBelow task after at (m + 1) g
        to g (inl (c, inl e)) = (c, inl e)
        to g (inl (c, inr l)) = (c, inr (omega arith))
        to g (inr e) = subst (LeadsBelow task after at (m + 1)) (sym e) this

        from : (g : F) → LeadsBelow task after at (m + 1) g → LeadsBelow task after at m g ⊎ (g ≡ f)
        from g (c, inl e) = inl (c, inl e)
        from g (c, inr l) = elim (cases_eq c.from m) [ inl e ↦ inr (same_some (subst (λ i. slice_get after i ≡ Some g) e c.left) left) | inr n ↦ inl (c, inr (omega arith)) ]

    leads_past : list_any (λ k. eqb k (at - 1 - m)) (ways s) ≡ false → IsJoin join (LeadsBelow task after at m) r → IsJoin join (LeadsBelow task after at (m + 1)) r
    leads_past test j = same_join to from j
      where
        to : (g : F) → LeadsBelow task after at m g → LeadsBelow task after at (m + 1) g
        to g (c, inl e) = (c, inl e)
        to g (c, inr l) = (c, inr (omega arith))

        from : (g : F) → LeadsBelow task after at (m + 1) g → LeadsBelow task after at m g
        from g (c, inl e) = (c, inl e)
        from g (c, inr l) =
            elim (cases_eq c.from m) [
              | inl e ↦
                  let here : slice_get task m ≡ Some c.statement = subst (λ i. slice_get task i ≡ Some c.statement) e c.stands in
                  let k : c.passed ∈ ways s = subst (λ t. c.passed ∈ ways t) (same_some here st) c.may_pass in
                  let n : c.passed ≡ at - 1 - m = omega (arith, e, c.leads) in
                  absurd (false≢true (sym test ∙ finds (at - 1 - m) (ways s) (subst (λ i. i ∈ ways s) n k)))
              | inr n ↦ (c, inr (omega arith))
            ]

    pub leads_next : (f : F) → slice_get after m ≡ Some f
        → Associative join → Commutative join → Idempotent join
        → IsJoin join (LeadsBelow task after at m) r → IsJoin join (LeadsBelow task after at (m + 1)) (cond (list_any (λ k. eqb k (at - 1 - m)) (ways s)) (join r f) r)
    leads_next f left associative commutative idempotent j =
        elim (cases_Bool (list_any (λ k. eqb k (at - 1 - m)) (ways s))) [
          | inl t ↦ rw t (leads_more f left associative commutative idempotent t j)
          | inr n ↦ rw n (leads_past n j)
        ]

  -- all that lead here
  pub leads_all : (m : ℕ) (r : F) → at - 1 ≤ m → IsJoin join (LeadsBelow task after at m) r → IsJoin join (LeadsTo task after at) r
  leads_all m r high j = same_join (λ f w. w.0) from j
    where
      from : (f : F) → LeadsTo task after at f → LeadsBelow task after at m f
      from f c = elim (cases_eq c.from (at - 1)) [ inl e ↦ (c, inl e) | inr n ↦ (c, inr (omega (arith, c.leads))) ]
