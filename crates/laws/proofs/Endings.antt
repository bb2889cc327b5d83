-- Every path of a well-formed task ends in its one ending.
use Rattle.std.proofs.Common.{◌≡◌, ℕ, zero, suc, ◌-◌, ◌<◌, ◌≤◌, true, cond, not, ◌&&◌, eqb, ltb, leb, List, [], ◌∷◌, length, sym, ap, ◌∙◌, inl, inr, arith}
use Rattle.std.specs.List.{flat_map, list_all}
use Rattle.std.proofs.lemmas.Bool.{false≢true, and_parts, and_from, cond-false, ne_eqb, leb-true, ltb-true}
use Rattle.program.specs.declared.check.Scope.{Scope}
use Rattle.program.specs.declared.statement.Statement.{Statement}
use Rattle.program.specs.Shapes.{ways, ending}
use Rattle.program.specs.Paths.{paths, ◌∈◌}
use Rattle.program.specs.Sound.{declared, placed, all_placed, few_emits}
use Rattle.program.proofs.Programs.{pass_in}
use Rattle.laws.specs.Endings.{ends_once, EndsOnce}
use Rattle.laws.proofs.Paths.{from_map, from_joined}

ends_more : (s : Statement) (π : List Statement) → not (ending s) ≡ true → ends_once π ≡ true → ends_once (s ∷ π) ≡ true
ends_more s [] h e = absurd (false≢true e)
ends_more s (r ∷ π) h e = and_from _ _ h e

-- the one member of a list of one
only : {A : Type 0} {x y : A} → x ∈ (y ∷ []) → x ≡ y
only (inl e) = e
only (inr h) = absurd h

-- a statement of the task stands where it may
here : (scope : Scope) (s : Statement) (rest : List Statement) → all_placed scope (s ∷ rest) ≡ true → (placed s (length rest) ≡ true) × (all_placed scope rest ≡ true)
here scope s rest h =
    let p = and_parts (declared scope s && placed s (length rest)) (all_placed scope rest) h in
    ((and_parts (declared scope s) (placed s (length rest)) p.0).1, p.1)

-- with k statements still to be passed over, and more left than that
ends_from : (scope : Scope) (k : ℕ) (task : List Statement) → all_placed scope task ≡ true → k < length task → (π : List Statement) → π ∈ paths k task → ends_once π ≡ true
ends_from scope k [] h l π i = absurd (omega arith)
ends_from scope (suc k) (s ∷ rest) h l π i = ends_from scope k rest (here scope s rest h).1 (omega arith) π i
ends_from scope zero (s ∷ []) h l π i =
    let p = from_map (λ ρ. s ∷ ρ) π (flat_map (λ k. paths k []) (ways s)) i in
    let q = from_joined (λ k. paths k []) (ways s) p.0 p.1 in
    ap ends_once (p.2 ∙ ap (λ ρ. s ∷ ρ) (only q.2)) ∙ (and_parts (ending s) (list_all (λ k. leb k 0) (ways s)) (here scope s [] h).0).0
ends_from scope zero (s ∷ (r ∷ rest)) h l π i =
    let p = from_map (λ ρ. s ∷ ρ) π (flat_map (λ k. paths k (r ∷ rest)) (ways s)) i in
    let q = from_joined (λ k. paths k (r ∷ rest)) (ways s) p.0 p.1 in
    let at = here scope s (r ∷ rest) h in
    let n : ℕ = length (r ∷ rest) in
    let put = and_parts (cond (eqb n 0) (ending s) (not (ending s))) (list_all (λ k. leb k (n - 1)) (ways s)) at.0 in
    let no_ending = sym (cond-false (eqb n 0) (ending s) (not (ending s)) (ne_eqb n 0 (λ e. omega arith))) ∙ put.0 in
    let near : q.0 ≤ n - 1 = leb-true q.0 (n - 1) (pass_in (λ k. leb k (n - 1)) (ways s) q.0 q.1 put.1) in
    ap ends_once p.2 ∙ ends_more s p.0 no_ending (ends_from scope q.0 (r ∷ rest) at.1 (omega arith) p.0 q.2)

pub ends_once_stands : EndsOnce
ends_once_stands scope task h π i =
    let p = and_parts (ltb 0 (length task) && leb (length task) 64) (all_placed scope task && few_emits task) h in
    ends_from scope 0 task (and_parts (all_placed scope task) (few_emits task) p.1).0 (ltb-true 0 (length task) (and_parts (ltb 0 (length task)) _ p.0).0) π i
