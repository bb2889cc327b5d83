-- The lines of tasks.
use Rattle.std.proofs.Common.{◌≡◌, ℕ, suc, ◌+◌, ◌<◌, ◌≤◌, true, false, cond, ltb, List, [], ◌∷◌, ◌++◌, length, take, get_or, refl, ap, sym, ◌∙◌, arith, append-nil, append_assoc}
use Rattle.std.specs.List.{flat_map, zip}
use Rattle.std.specs.Borrow.{Bor}
use Rattle.std.proofs.lemmas.Bool.Decides.{nat_tests}
use Rattle.std.proofs.lemmas.List.{take_more, map-append, length-map}
use Rattle.std.proofs.Common.{length-take-le}
use Rattle.std.proofs.Output.{has_written_append, has_written_of_eq}
use Rattle.std.specs.Fmt.{HasWritten}
use Rattle.std.specs.declared.fmt.Formatter.{Formatter}
use Rattle.program.specs.declared.program.Program.{Program}
use Rattle.program.specs.declared.statement.Statement.{Statement}
use Rattle.program.specs.Programs.{program_source}
use Rattle.grammar.specs.Names.{bytes_of}
use Rattle.rules.specs.Known.{task_facts}
use Rattle.rules.proofs.Making.{few_tasks}
use Rattle.fit.specs.Printed.{line_if, task_line, task_lines}

-- no program has a task of a number from 16 on
pub no_task : (p : Program) (t : ℕ) → 16 ≤ t → length (program_source p).tasks ≤ t
no_task p t high = omega (arith, few_tasks p)

below_suc : (a b : ℕ) → ltb (suc a) (suc b) ≡ ltb a b
below_suc a b = grind (arith, nat_tests)

some_below : (b : ℕ) → ltb 0 (suc b) ≡ true
some_below b = grind (arith, nat_tests)

none_below : (a : ℕ) → ltb (suc a) 0 ≡ false
none_below a = grind (arith, nat_tests)

-- the text of one pair more, if there is one
zip_push : {A B : Type 0} (f : A → B → List ℕ) (xs : List A) (x : A) (ys : List B) (d : B)
    → flat_map (λ p. f p.0 p.1) (zip (xs ++ x ∷ []) ys) ≡ flat_map (λ p. f p.0 p.1) (zip xs ys) ++ cond (ltb (length xs) (length ys)) (f x (get_or ys (length xs) d)) []
zip_push f [] x [] d = refl
zip_push f [] x (y ∷ ys) d = append-nil (f x y) ∙ ap (λ t. cond t (f x y) []) (sym (some_below (length ys)))
zip_push f (z ∷ xs) x [] d = ap (λ t. cond t (f x d) []) (sym (none_below (length xs)))
zip_push f (z ∷ xs) x (y ∷ ys) d =
    ap (λ l. f z y ++ l) (zip_push f xs x ys d)
    ∙ sym (append_assoc (f z y) (flat_map (λ p. f p.0 p.1) (zip xs ys)) (cond (ltb (length xs) (length ys)) (f x (get_or ys (length xs) d)) []))
    ∙ ap (λ t. flat_map (λ p. f p.0 p.1) (zip (z ∷ xs) (y ∷ ys)) ++ cond t (f x (get_or ys (length xs) d)) []) (sym (below_suc (length xs) (length ys)))

-- the line of one task more
line_more : (variables : List (List ℕ)) (names : List (Bor (List ℕ))) (tasks : List (List Statement)) (i : ℕ) (d : Bor (List ℕ)) → i < length names
    → task_lines variables (bytes_of (take i names)) tasks ++ line_if (get_or names i d).now variables tasks i ≡ task_lines variables (bytes_of (take (i + 1) names)) tasks
unfolding task_lines line_if
line_more variables names tasks i d within =
    let split : bytes_of (take (i + 1) names) ≡ bytes_of (take i names) ++ (get_or names i d).now ∷ [] = ap bytes_of (take_more names i d within) ∙ map-append (λ n. n.now) (take i names) (get_or names i d ∷ []) in
    let long : length (bytes_of (take i names)) ≡ i = length-map (take i names) (λ n. n.now) ∙ length-take-le i names (omega arith) in
    ap (λ n. task_lines variables (bytes_of (take i names)) tasks ++ line_if (get_or names i d).now variables tasks n) (sym long)
    ∙ sym (ap (λ l. task_lines variables l tasks) split ∙ zip_push (λ name task. task_line name variables (task_facts task) ++ 10 ∷ []) (bytes_of (take i names)) (get_or names i d).now tasks [])

pub line_written : {W : Type 0} (took : W → List ℕ → W → Type 0) (f g h : Formatter W) (variables : List (List ℕ)) (names : List (Bor (List ℕ))) (tasks : List (List Statement)) (i : ℕ) (d : Bor (List ℕ)) → i < length names
    → HasWritten took f (task_lines variables (bytes_of (take i names)) tasks) g → HasWritten took g (line_if (get_or names i d).now variables tasks i) h → HasWritten took f (task_lines variables (bytes_of (take (i + 1) names)) tasks) h
line_written took f g h variables names tasks i d within before more = has_written_of_eq took _ _ _ _ (line_more variables names tasks i d within) (has_written_append took _ _ _ _ _ before more)
