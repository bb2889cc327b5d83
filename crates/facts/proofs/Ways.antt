-- The ways to a place of a task, and that those to its end are its paths.
use Rattle.std.proofs.Common.{◌≡◌, ℕ, zero, suc, ◌+◌, ◌≤◌, true, leb, List, [], ◌∷◌, ◌++◌, drop, get_or, length, Some, sym, refl, ap, ◌∙◌, subst, inl, inr, arith}
use Rattle.std.specs.List.{flat_map, list_all, slice_get}
use Rattle.std.proofs.lemmas.List.{append_assoc, append-nil, drop-drop, drop_all, get_or-drop, length-drop}
use Rattle.std.proofs.lemmas.Option.{get_or_from_slice_get, slice_get_read, slice_get_within}
use Rattle.std.proofs.Math.Seq.{drop-cons}
use Rattle.std.proofs.lemmas.Bool.{and_parts, leb-true}
use Rattle.program.specs.declared.statement.Statement.{Statement}
use Rattle.program.specs.Shapes.{ways}
use Rattle.program.specs.Paths.{paths, ◌∈◌}
use Rattle.program.proofs.Programs.{pass_in}
use Rattle.laws.proofs.Paths.{in_map, in_joined, from_map, from_joined}
use Rattle.facts.specs.Passes.{inside}

-- π has the statements, in order, of a way from the first place of the task to place j
pub data Way (task : List Statement) : ℕ → List Statement → Type 0 where
  first : Way task 0 []
  on : {i j : ℕ} {π : List Statement} {s : Statement} → Way task i π → slice_get task i ≡ Some s → (k : ℕ) → k ∈ ways s → j ≡ i + 1 + k → Way task j (π ++ s ∷ [])

-- what is left from place i on begins with the statement there
left_at : {A : Type 0} (xs : List A) (i : ℕ) (x : A) → slice_get xs i ≡ Some x → drop i xs ≡ x ∷ drop (i + 1) xs
left_at xs i x e =
    let next : suc i ≡ i + 1 = omega arith in
    drop-cons xs i x (slice_get_within xs i x e) ∙ ap (λ y. y ∷ drop (suc i) xs) (get_or_from_slice_get xs i x x e) ∙ ap (λ n. x ∷ drop n xs) next

-- and the other way round
at_left : {A : Type 0} (xs : List A) (i : ℕ) (x : A) (rest : List A) → drop i xs ≡ x ∷ rest → slice_get xs i ≡ Some x
at_left xs i x rest e =
    let size = length-drop i xs in
    let from : get_or (drop i xs) 0 x ≡ get_or xs i x = get_or-drop i xs 0 x ∙ ap (λ n. get_or xs n x) (omega arith) in
    slice_get_read xs (length xs) i x refl (omega (arith, size, ap length e)) (sym (ap (λ l. get_or l 0 x) e) ∙ from)

tail_of : {A : Type 0} {x : A} {xs ys : List A} → x ∷ xs ≡ x ∷ ys → xs ≡ ys
tail_of e = ap (drop 1) e

-- with k statements still to be passed over, the paths are those of what is left behind them
paths_left : (k : ℕ) (rest : List Statement) → paths k rest ≡ paths 0 (drop k rest)
paths_left zero rest = refl
paths_left (suc k) [] = refl
paths_left (suc k) (s ∷ rest) = paths_left k rest

-- a way, and a path of what is left, make a path of the task
way_and_path : {task : List Statement} {j : ℕ} {π : List Statement} → Way task j π → (ρ : List Statement) → ρ ∈ paths 0 (drop j task) → (π ++ ρ) ∈ paths 0 task
way_and_path first ρ h = h
way_and_path {task} (on {i = i} {j = j} {π = π} {s = s} w st k m e) ρ h =
    let behind : paths k (drop (i + 1) task) ≡ paths 0 (drop j task) = paths_left k (drop (i + 1) task) ∙ ap (paths 0) (drop-drop k (i + 1) task ∙ ap (λ n. drop n task) (omega (arith, e))) in
    let here : (s ∷ ρ) ∈ paths 0 (s ∷ drop (i + 1) task) =
    in_map (λ σ. s ∷ σ) ρ (flat_map (λ n. paths n (drop (i + 1) task)) (ways s)) (in_joined (λ n. paths n (drop (i + 1) task)) k (ways s) ρ m (subst (λ πs. ρ ∈ πs) (sym behind) h)) in
    rw (append_assoc π (s ∷ []) ρ) (way_and_path w (s ∷ ρ) (subst (λ l. (s ∷ ρ) ∈ paths 0 l) (sym (left_at task i s st)) here))

-- a way to the place from which k statements of the rest are to be passed over, and a path of that rest, make a way to the end
way_on : (task : List Statement) (i k : ℕ) (rest π ρ : List Statement) → i ≤ length task → drop i task ≡ rest → inside rest ≡ true → k ≤ length rest → Way task (i + k) π → ρ ∈ paths k rest → Way task (length task) (π ++ ρ)
way_on task i zero [] π ρ l e h n w (inl m) =
    let d = length-drop i task in
    let at : i + 0 ≡ length task = omega (arith, d, ap length e) in
    subst (λ j. Way task j (π ++ ρ)) at (rw m (rw (append-nil π) w))
way_on task i zero [] π ρ l e h n w (inr m) = absurd m
way_on task i (suc k) [] π ρ l e h n w m = absurd (omega arith)
way_on task i (suc k) (s ∷ rest) π ρ l e h n w m =
    let st : slice_get task i ≡ Some s = at_left task i s rest e in
    let left : drop (i + 1) task ≡ rest = tail_of (sym (left_at task i s st) ∙ e) in
    let within = slice_get_within task i s st in
    way_on task (i + 1) k rest π ρ (omega arith) left (and_parts (list_all (λ k. leb k (length rest)) (ways s)) (inside rest) h).1 (omega arith) (subst (λ j. Way task j π) (omega arith) w) m
way_on task i zero (s ∷ rest) π ρ l e h n w m =
    let st : slice_get task i ≡ Some s = at_left task i s rest e in
    let left : drop (i + 1) task ≡ rest = tail_of (sym (left_at task i s st) ∙ e) in
    let within = slice_get_within task i s st in
    let p = from_map (λ σ. s ∷ σ) ρ (flat_map (λ k. paths k rest) (ways s)) m in
    let q = from_joined (λ k. paths k rest) (ways s) p.0 p.1 in
    let k : ℕ = q.0 in
    let stays = and_parts (list_all (λ k. leb k (length rest)) (ways s)) (inside rest) h in
    let near : k ≤ length rest = leb-true k (length rest) (pass_in (λ k. leb k (length rest)) (ways s) k q.1 stays.0) in
    let on_it : Way task (i + 1 + k) (π ++ s ∷ []) = on (subst (λ j. Way task j π) (omega arith) w) st k q.1 refl in
    rw p.2 (subst (Way task (length task)) (append_assoc π (s ∷ []) p.0) (way_on task (i + 1) k rest (π ++ s ∷ []) p.0 (omega arith) left stays.1 near on_it q.2))

-- the ways to the end of a task are its paths
pub paths_are_ways : (task : List Statement) → inside task ≡ true → (π : List Statement) → π ∈ paths 0 task → Way task (length task) π
paths_are_ways task h π m = way_on task 0 0 task [] π (omega arith) refl h (omega arith) first m

pub ways_are_paths : (task : List Statement) (π : List Statement) → Way task (length task) π → π ∈ paths 0 task
ways_are_paths task π w = subst (λ ρ. ρ ∈ paths 0 task) (append-nil π) (way_and_path w [] (rw (drop_all (length task) task (omega arith)) (inl refl)))
