-- The checks of a task, statement by statement.
use Rattle.std.proofs.Common.{◌≡◌, ltb, cond, ℕ, zero, suc, ◌+◌, ◌≤◌, Bool, true, ◌&&◌, leb, List, [], ◌∷◌, ◌++◌, drop, sym, refl, ap, ◌∙◌, ap₂, add_assoc, zero-add, arith}
use mathlib.Core.Bool.{and-true}
use mathlib.Core.Path.{fun_ext}
use Rattle.program.specs.declared.statement.Statement.{Statement}
use Rattle.std.proofs.lemmas.Bool.Decides.{nat_tests}
use Rattle.std.specs.List.{count_by, flat_map, list_all}
use Rattle.std.proofs.lemmas.List.Folds.{list_all-append, list_all-map}
use Rattle.std.proofs.lemmas.List.Recursion.{is_count_by}
use Rattle.program.specs.Shapes.{emits, ways}
use Rattle.program.specs.Paths.{paths, emitted_on}
use Rattle.program.specs.Sound.{few_emits}

-- a test of every element

emitted_drop : (k : ℕ) (task : List Statement) → emitted_on (drop k task) ≤ emitted_on task
emitted_drop zero task = omega arith
emitted_drop (suc k) [] = omega arith
emitted_drop (suc k) (s ∷ rest) = let on = emitted_drop k rest in omega arith

both_below : (a x y n : ℕ) → y ≤ x → (leb (a + x) n && (leb (a + y) n && true)) ≡ leb (a + x) n
both_below a x y n h = grind (arith, nat_tests)

-- over the ways that go on from a statement: the straight one adds the most
module _ (n a : ℕ) (q : List Statement → Bool) (rest : List Statement) (on : (k : ℕ) → list_all q (paths k rest) ≡ leb (a + emitted_on (drop k rest)) n) where
  straight : list_all q (paths 0 rest ++ []) ≡ leb (a + emitted_on rest) n
  straight = list_all-append q (paths 0 rest) [] ∙ ap (λ b. b && true) (on 0) ∙ and-true (leb (a + emitted_on rest) n)

  on_ways : (s : Statement) → list_all q (flat_map (λ k. paths k rest) (ways s)) ≡ leb (a + emitted_on rest) n
  on_ways Statement.Stop = straight
  on_ways (Statement.Set t l o r) = straight
  on_ways (Statement.Emit l) = straight
  on_ways (Statement.Skip k t) =
      list_all-append q (paths 0 rest) (paths k.count rest ++ [])
      ∙ ap₂ ◌&&◌ (on 0) (list_all-append q (paths k.count rest) [] ∙ ap (λ b. b && true) (on k.count))
      ∙ both_below a (emitted_on rest) (emitted_on (drop k.count rest)) n (emitted_drop k.count rest)
  on_ways (Statement.Next t) = straight
  on_ways (Statement.Choose c t u) = straight

-- With a words added before them, no path adds more than n exactly when the one that comes to every statement does not.
all_below : (n a k : ℕ) (task : List Statement) → list_all (λ π. leb (a + emitted_on π) n) (paths k task) ≡ leb (a + emitted_on (drop k task)) n
all_below n a zero [] = and-true (leb (a + 0) n)
all_below n a (suc k) [] = and-true (leb (a + 0) n)
all_below n a (suc k) (s ∷ rest) = all_below n a k rest
all_below n a zero (s ∷ rest) =
    list_all-map (λ π. leb (a + emitted_on π) n) (λ π. s ∷ π) (flat_map (λ k. paths k rest) (ways s))
    ∙ ap (λ q. list_all q (flat_map (λ k. paths k rest) (ways s))) (fun_ext (λ π. ap (λ m. leb m n) (sym (add_assoc a (emits s) (emitted_on π)))))
    ∙ on_ways n (a + emits s) (λ π. leb ((a + emits s) + emitted_on π) n) rest (λ k. all_below n (a + emits s) k rest) s
    ∙ ap (λ m. leb m n) (add_assoc a (emits s) (emitted_on rest))

-- The one path over all statements adds as many words as the task has emits.
emits_counted : (s : Statement) (rest : List Statement) → emitted_on (s ∷ rest) ≡ cond (ltb 0 (emits s)) (1 + emitted_on rest) (emitted_on rest)
emits_counted Statement.Stop rest = zero-add (emitted_on rest)
emits_counted (Statement.Set n a o b) rest = zero-add (emitted_on rest)
emits_counted (Statement.Emit a) rest = refl
emits_counted (Statement.Skip k t) rest = zero-add (emitted_on rest)
emits_counted (Statement.Next t) rest = zero-add (emitted_on rest)
emits_counted (Statement.Choose c t u) rest = zero-add (emitted_on rest)

pub few_counted : (task : List Statement) → few_emits task ≡ leb (count_by (λ s. ltb 0 (emits s)) task) 8
few_counted task =
    ap (λ q. list_all q (paths 0 task)) (fun_ext (λ π. ap (λ m. leb m 8) (sym (zero-add (emitted_on π)))))
    ∙ all_below 8 0 0 task
    ∙ ap (λ m. leb m 8) (zero-add (emitted_on task) ∙ is_count_by emitted_on (λ s. ltb 0 (emits s)) refl emits_counted task)
