-- No statement of a program's task leads beyond the task.
use Rattle.std.proofs.Common.{◌≡◌, ℕ, ◌-◌, ◌≤◌, true, ◌&&◌, ltb, leb, eqb, cond, not, List, [], ◌∷◌, get_or, length, refl, ap, inl, inr, arith}
use Rattle.std.specs.List.{list_all}
use Rattle.std.proofs.lemmas.List.Sums.{AllPass-from_list_all, list_all-from_AllPass}
use Rattle.std.proofs.lemmas.Bool.{and_parts, and_from, leb-true, le-leb}
use Rattle.program.specs.declared.check.Scope.{Scope}
use Rattle.program.specs.declared.program.Program.{Program}
use Rattle.program.specs.declared.statement.Statement.{Statement}
use Rattle.program.specs.Shapes.{ways, ending}
use Rattle.program.specs.Sound.{declared, placed, all_placed, few_emits, task_of, scope_of}
use Rattle.program.specs.Programs.{program_source}
use Rattle.program.proofs.Programs.{task_cases}
use Rattle.facts.specs.Passes.{inside}

all_within : (ks : List ℕ) (m n : ℕ) → m ≤ n → list_all (λ k. leb k m) ks ≡ true → list_all (λ k. leb k n) ks ≡ true
all_within ks m n l h =
    list_all-from_AllPass (λ k. leb k n) ks
    (λ i d r. let small = leb-true (get_or ks i d) m (AllPass-from_list_all (λ k. leb k m) ks h i d r) in le-leb (get_or ks i d) n (omega arith))

placed_inside : (scope : Scope) (task : List Statement) → all_placed scope task ≡ true → inside task ≡ true
placed_inside scope [] h = refl
placed_inside scope (s ∷ rest) h =
    let n : ℕ = length rest in
    let p = and_parts (declared scope s && placed s n) (all_placed scope rest) h in
    let put = and_parts (declared scope s) (placed s n) p.0 in
    let near = and_parts (cond (eqb n 0) (ending s) (not (ending s))) (list_all (λ k. leb k (n - 1)) (ways s)) put.1 in
    and_from _ _ (all_within (ways s) (n - 1) n (omega arith) near.1) (placed_inside scope rest p.1)

pub task_inside : (p : Program) (t : ℕ) → inside (task_of (program_source p) t) ≡ true
task_inside p t =
    let task : List Statement = task_of (program_source p) t in
    elim (task_cases p t) [
      | inl h ↦ placed_inside (scope_of (program_source p)) task (and_parts (all_placed _ task) (few_emits task) (and_parts (ltb 0 (length task) && leb (length task) 64) _ h).1).0
      | inr e ↦ ap inside e
    ]
