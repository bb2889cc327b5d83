-- Running a task again: statements that read the same values do the same.
use Rattle.std.proofs.Common.{◌≡◌, ℕ, zero, suc, Bool, true, false, cond, not, ◌&&◌, ◌||◌, eqb, List, [], ◌∷◌, ◌++◌, length, get_or, set, refl, ap, ◌∙◌, ap₂, inl, inr, arith}
use Rattle.std.specs.List.{AllByRecursion as All}
use Rattle.std.proofs.lemmas.List.{length-set, get_or-set_same, get_or-set_other, get_or_past, ext_get_or}
use Rattle.std.proofs.lemmas.Bool.{cases_Bool, cases_lt, eq-eqb, both_ways, or_parts, and_parts, and_left, and_right, not_from_true}
use Rattle.std.proofs.lemmas.Bool.Decides.{eqb_tells}
use Rattle.program.specs.declared.statement.Operand.{Operand}
use Rattle.program.specs.declared.statement.Test.{Test}
use Rattle.program.specs.declared.statement.Target.{Target}
use Rattle.program.specs.declared.statement.Next.{Next}
use Rattle.program.specs.declared.statement.Statement.{Statement}
use Rattle.std.specs.List.{list_any}
use Rattle.program.specs.Shapes.{operands}
use Rattle.program.specs.Runs.{Run, value, result_of, compares, holds, assign, emit, choose, after, passes, taken, exec}
use Rattle.program.specs.Paths.{operand_is, target_is, reads, writes, written, read_first}
use Rattle.laws.specs.Again.{SameOutside, Agree, Unread, RunsAgain, EndsAgain}

-- a word that is set alike in both lists
both_set : {W : ℕ → Bool} {xs ys : List ℕ} → SameOutside W xs ys → (u x : ℕ) → SameOutside (λ v. not (eqb u v || false) && W v) (set xs u x) (set ys u x)
both_set {W} {xs} {ys} same u x = record {
  size = simp length-set same.size;
  words = λ v out. grind (arith, eqb_tells u v, cases_lt v (length xs), same.words v, get_or-set_same, get_or-set_other, get_or_past, length-set);
}

-- the operands have the same values in both runs
abbrev SameValues : Run → Run → List Operand → Type 0
SameValues σ μ = All (λ a. value μ a ≡ value σ a)

module _ {W : ℕ → Bool} {σ μ : Run} (agree : Agree W σ μ) where
  -- a larger set
  pub widen : {U : ℕ → Bool} → ((v : ℕ) → U v ≡ false → W v ≡ false) → Agree U σ μ
  widen h = record {
    inputs = agree.inputs;
    locals = agree.locals;
    emitted = agree.emitted;
    chosen = agree.chosen;
    variables = record { size = agree.variables.size; words = λ v out. agree.variables.words v (h v out) };
  }

  same_value : (a : Operand) → ((v : ℕ) → W v ≡ true → operand_is v a ≡ false) → value μ a ≡ value σ a
  same_value (Operand.Number n) h = refl
  same_value (Operand.Variable u) h =
      elim (cases_Bool (W u.number)) [
        | inl w ↦ absurd (both_ways _ (h u.number w) (eq-eqb u.number u.number refl))
        | inr w ↦ agree.variables.words u.number w
      ]
  same_value (Operand.Local l) h = ap (λ xs. get_or xs l.number 0) agree.locals
  same_value (Operand.Input i) h = ap (λ xs. get_or xs i.number 0) agree.inputs

  same_values : (xs : List Operand) → ((v : ℕ) → W v ≡ true → list_any (operand_is v) xs ≡ false) → SameValues σ μ xs
  same_values [] h = tt
  same_values (a ∷ xs) h = (same_value a (λ v w. (or_parts _ _ (h v w)).0), same_values xs (λ v w. (or_parts (operand_is v a) _ (h v w)).1))

  same_assign : (n : Target) {x y : ℕ} → y ≡ x → Agree (λ v. not (target_is v n || false) && W v) (assign n x σ) (assign n y μ)
  same_assign (Target.Variable u) {x} e =
      record { inputs = agree.inputs; locals = agree.locals; emitted = agree.emitted; chosen = agree.chosen; variables = rw e (both_set agree.variables u.number x) }
  same_assign (Target.Local l) e =
      record { inputs = agree.inputs; locals = ap₂ (λ xs z. set xs l.number z) agree.locals e; emitted = agree.emitted; chosen = agree.chosen; variables = agree.variables }

  same_emit : {x y : ℕ} → y ≡ x → Agree W (emit x σ) (emit y μ)
  same_emit e =
      record { inputs = agree.inputs; locals = agree.locals; emitted = ap₂ (λ xs z. xs ++ z ∷ []) agree.emitted e; chosen = agree.chosen; variables = agree.variables }

  same_choose : {n m : Next} → m ≡ n → Agree W (choose n σ) (choose m μ)
  same_choose e = record { inputs = agree.inputs; locals = agree.locals; emitted = agree.emitted; chosen = e; variables = agree.variables }

  same_holds : (t : Test) → SameValues σ μ (t.left ∷ t.right ∷ []) → holds μ t ≡ holds σ t
  same_holds t h = ap₂ (compares t.comparison) h.0 h.1.0

  same_passes : (s : Statement) → SameValues σ μ (operands s) → passes s μ ≡ passes s σ
  same_passes Statement.Stop h = refl
  same_passes (Statement.Set n a o b) h = refl
  same_passes (Statement.Emit a) h = refl
  same_passes (Statement.Skip k t) h = ap (λ b. cond b k.count 0) (same_holds t h)
  same_passes (Statement.Next t) h = refl
  same_passes (Statement.Choose c t u) h = refl

  same_after : (s : Statement) → SameValues σ μ (operands s) → Agree (λ v. not (writes s v) && W v) (after s σ) (after s μ)
  same_after Statement.Stop h = same_choose refl
  same_after (Statement.Set n a o b) h = same_assign n (ap₂ (result_of o) h.0 h.1.0)
  same_after (Statement.Emit a) h = same_emit h.0
  same_after (Statement.Skip k t) h = agree
  same_after (Statement.Next t) h = same_choose refl
  same_after (Statement.Choose c t u) h = same_choose (ap (λ b. cond b (Next.Task t) (Next.Task u)) (same_holds c h))

-- what one statement and then a path leave of a set is what both leave
left_of_set : (here later in-set : Bool) → (not later && (not here && in-set)) ≡ (not (here || later) && in-set)
left_of_set true later in-set = and_right (not later) false refl
left_of_set false later in-set = refl

pub runs_again : RunsAgain
runs_again W k [] σ μ agree unread = (refl, agree)
runs_again W (suc k) (s ∷ rest) σ μ agree unread = runs_again W k rest σ μ agree unread
runs_again W zero (s ∷ rest) σ μ agree unread =
    let π : List Statement = taken (passes s σ) rest (after s σ) in
    let U : ℕ → Bool = λ v. not (writes s v) && W v in
    let same = same_values agree (operands s) (λ v w. (or_parts (reads s v) _ (unread v w)).0) in
    let unread_on : Unread U π = λ v w.
    let p = and_parts (not (writes s v)) (W v) w in
    let later : (not (writes s v) && read_first π v) ≡ false = (or_parts (reads s v) _ (unread v p.1)).1 in
    rw p.0 at later in
    let on = runs_again U (passes s σ) rest (after s σ) (after s μ) (same_after agree s same) unread_on in
    rw (same_passes agree s same) (ap (λ ρ. s ∷ ρ) on.0, widen on.1 (λ v out. left_of_set (writes s v) (written π v) (W v) ∙ out))

-- two runs that agree everywhere are one
same_run : (σ μ : Run) → Agree (λ v. false) σ μ → μ ≡ σ
same_run σ μ agree =
    let same : μ.variables ≡ σ.variables = ext_get_or 0 _ _ agree.variables.size (λ v h. agree.variables.words v refl) in
    λ i. record { inputs = agree.inputs i; variables = same i; locals = agree.locals i; emitted = agree.emitted i; chosen = agree.chosen i }

pub ends_again : EndsAgain
ends_again W k task σ μ agree unread all =
    same_run (exec k task σ) (exec k task μ) (widen (runs_again W k task σ μ agree unread).1 (λ v out.
    elim (cases_Bool (W v)) [
      | inl w ↦ and_left _ _ (not_from_true _ (all v w))
      | inr w ↦ and_right _ _ w
    ]))
