-- What a statement that is read of a sentence keeps to.
use Rattle.std.proofs.Common.{arith, ◌≡◌, refl, sym, ap, subst, ◌∙◌, ℕ, ◌-◌, ◌<◌, ◌≤◌, Bool, true, ◌&&◌, nat_le, nat_lt, List, [], ◌∷◌, length, Option, Some, None, Ok, Err, Result}
use Rattle.std.specs.List.{list_all}
use Rattle.std.specs.Option.{ok_or, option_map, option_or, unwrap_or}
use Rattle.std.proofs.lemmas.Bool.{and_from, le-leb, lt-ltb, ltb-true}
use Rattle.std.proofs.lemmas.Option.{cond_some, option_and_then_some}
use Rattle.std.proofs.Math.Decide.{dec_le, dec_lt}
use Rattle.program.specs.declared.check.Scope.{Scope}
use Rattle.program.specs.declared.statement.Comparison.{Comparison}
use Rattle.program.specs.declared.statement.Index.{Index}
use Rattle.program.specs.declared.statement.Operand.{Operand}
use Rattle.program.specs.declared.statement.Reach.{Reach}
use Rattle.program.specs.declared.statement.Statement.{Statement}
use Rattle.program.specs.declared.statement.Target.{Target}
use Rattle.program.specs.declared.statement.Test.{Test}
use Rattle.program.specs.Runs.{reading}
use Rattle.program.specs.Shapes.{ending, ways}
use Rattle.program.specs.Sound.{declared, operand_declared, target_declared}
use Rattle.text.specs.declared.refusal.Refusal.{Refusal}
use Rattle.text.specs.Tokens.{Tok, word, number, comment, sign, text_of, place_of}
use Rattle.forms.specs.Words.{number_of, reach_of}
use Rattle.forms.specs.Forms.{Sentence, set, emit, skip, next, choose, stop}
use Rattle.grammar.specs.Names.{Declared, index_if, index_in, index_of, place_among, reach_if, reach_with}
use Rattle.grammar.specs.Reading.{input_named, operand_named, read_operand, read_reach, read_sentence, read_target, read_task, read_test, reach_written, target_named, then}
use Rattle.grammar.specs.Judging.{ends}
use Rattle.rounds.specs.Rounds.{passed_by}
use Rattle.compile.proofs.Parts.{scope_with}

-- what was read is what was found
found : {A E : Type 0} (o : Option A) (e : E) (x : A) → ok_or o e ≡ Ok x → o ≡ Some x
found None e x h = absurd (cc)
found (Some y) e x h = cc

-- An index is below the count of the names that it was found among

index_if_number : {N n : ℕ} (d : Dec (n < N)) (i : Index N) → index_if d ≡ Some i → i.number ≡ n
index_if_number (yes q) i h = cc
index_if_number (no q) i h = absurd (cc)

index_number : {N : ℕ} (n : ℕ) (i : Index N) → index_of n ≡ Some i → i.number ≡ n
unfolding index_of
index_number {N} n i h = index_if_number (dec_lt n N) i h

place_inside : (names : List (List ℕ)) (name : List ℕ) (n : ℕ) → place_among names name ≡ Some n → n < length names
unfolding place_among
place_inside names name n h = let e = cond_some _ _ _ h in subst (λ k. k < length names) e.1 (ltb-true _ _ e.0)

index_inside : {N : ℕ} (names : List (List ℕ)) (name : List ℕ) (i : Index N) → index_in names name ≡ Some i → nat_lt i.number (length names) ≡ true
index_inside {N} names name i h =
    option_and_then_some (index_of {N = N}) (place_among names name) i h (λ n at made. lt-ltb i.number (length names) (let l = place_inside names name n at in let e = index_number n i made in omega arith))

reach_if_count : {n : ℕ} (d : Dec (0 < n)) (f : Dec (n ≤ 15)) (r : Reach) → reach_if d f ≡ Some r → r.count ≡ n
reach_if_count (yes p) (yes q) r h = cc
reach_if_count (yes p) (no q) r h = absurd (cc)
reach_if_count (no p) f r h = absurd (cc)

reach_count : (n : ℕ) (r : Reach) → reach_with n ≡ Some r → r.count ≡ n
unfolding reach_with
reach_count n r h = reach_if_count (dec_lt 0 n) (dec_le n 15) r h

reach_read : (k : Tok) (r : Reach) → read_reach k ≡ Ok r → r.count ≡ unwrap_or (reach_of (text_of k)) 0
reach_read k r h =
    option_and_then_some reach_with (reach_of (text_of k)) r (found (reach_written (text_of k)) (Refusal.Number (place_of k)) r h)
    (λ n at made. reach_count n r made ∙ ap (λ o. unwrap_or o 0) (sym at))

-- WHAT IS READ IS DECLARED

-- one of two, each of which has a property
either : {A : Type 0} (P : A → Type 0) (x y : Option A) → ((a : A) → x ≡ Some a → P a) → ((a : A) → y ≡ Some a → P a) → (a : A) → option_or x y ≡ Some a → P a
either P (Some b) y f g a h = f a h
either P None y f g a h = g a h

mapped_has : {A B : Type 0} (P : B → Type 0) (f : A → B) (o : Option A) → ((x : A) → o ≡ Some x → P (f x)) → (y : B) → option_map f o ≡ Some y → P y
mapped_has P f None g y h = absurd (cc)
mapped_has P f (Some x) g y h = let e : f x ≡ y = cc in subst P e (g x refl)

reading_declared : (scope : Scope) (t : Target) → target_declared scope t ≡ true → operand_declared scope (reading t) ≡ true
reading_declared scope (Target.Variable v) h = h
reading_declared scope (Target.Local l) h = h

module _ (d : Declared) where
  target_known : (name : List ℕ) (t : Target) → target_named d name ≡ Some t → target_declared (scope_with d) t ≡ true
  target_known name =
      either (λ t. target_declared (scope_with d) t ≡ true) (option_map Target.Variable (index_in d.variables name)) (option_map Target.Local (index_in d.locals name))
      (mapped_has (λ t. target_declared (scope_with d) t ≡ true) Target.Variable (index_in d.variables name) (index_inside d.variables name))
      (mapped_has (λ t. target_declared (scope_with d) t ≡ true) Target.Local (index_in d.locals name) (index_inside d.locals name))

  operand_known : (name : List ℕ) (o : Operand) → operand_named d name ≡ Some o → operand_declared (scope_with d) o ≡ true
  operand_known name =
      either (λ o. operand_declared (scope_with d) o ≡ true) (option_map Operand.Input (input_named name)) (option_map reading (target_named d name))
      (mapped_has (λ o. operand_declared (scope_with d) o ≡ true) Operand.Input (input_named name) (λ i at. refl))
      (mapped_has (λ o. operand_declared (scope_with d) o ≡ true) reading (target_named d name) (λ t at. reading_declared (scope_with d) t (target_known name t at)))

  target_read : (t : Tok) (x : Target) → read_target d t ≡ Ok x → target_declared (scope_with d) x ≡ true
  target_read t x h = target_known (text_of t) x (found (target_named d (text_of t)) (Refusal.Unknown (place_of t)) x h)

  operand_read : (t : Tok) (o : Operand) → read_operand d t ≡ Ok o → operand_declared (scope_with d) o ≡ true
  operand_read (number text p) o h = mapped_has (λ o. operand_declared (scope_with d) o ≡ true) Operand.Number (number_of text) (λ n at. refl) o (found (option_map Operand.Number (number_of text)) (Refusal.Number p) o h)
  operand_read (word text p) o h = operand_known text o (found (operand_named d text) (Refusal.Unknown p) o h)
  operand_read (comment text p) o h = operand_known text o (found (operand_named d text) (Refusal.Unknown p) o h)
  operand_read (sign text p) o h = operand_known text o (found (operand_named d text) (Refusal.Unknown p) o h)

  task_read : (t : Tok) (i : Index 16) → read_task d t ≡ Ok i → nat_lt i.number (length d.tasks) ≡ true
  task_read t i h = index_inside d.tasks (text_of t) i (found (index_in d.tasks (text_of t)) (Refusal.Unknown (place_of t)) i h)

-- WHAT IS READ OF A SENTENCE

-- It is declared, an ending where the sentence says one, and its ways lead over no more than the sentence passes over.
pub record Behaves (d : Declared) (s : Sentence) (st : Statement) : Type 0 where
  pub declares : declared (scope_with d) st ≡ true
  pub ends_as : ending st ≡ ends s
  pub near : (n : ℕ) → passed_by s < n → list_all (λ k. nat_le k (n - 1)) (ways st) ≡ true

-- from the left: a fact of all that may be read
then_has : {A B : Type 0} (P : B → Type 0) (r : Result A Refusal) (make : A → Result B Refusal) → ((x : A) → r ≡ Ok x → (y : B) → make x ≡ Ok y → P y) → (y : B) → then r make ≡ Ok y → P y
then_has P (Ok x) make on y h = on x refl y h
then_has P (Err e) make on y h = absurd (cc)

made : {A : Type 0} (P : A → Type 0) (x : A) → P x → (y : A) → ◌≡◌ {A = Result A Refusal} (Ok x) (Ok y) → P y
made P x p y h = let e : x ≡ y = cc in subst P e p

straight : (n : ℕ) → list_all (λ k. nat_le k (n - 1)) (0 ∷ []) ≡ true
straight n = and_from _ _ (le-leb 0 (n - 1) (omega arith)) refl

both : (a b : Bool) → a ≡ true → b ≡ true → (a && (b && true)) ≡ true
both a b e f = and_from _ _ e (and_from _ _ f refl)

one : (a : Bool) → a ≡ true → (a && true) ≡ true
one a e = and_from _ _ e refl

test_read : (d : Declared) (a : Tok) (c : Comparison) (b : Tok) (t : Test) → read_test d a c b ≡ Ok t → (operand_declared (scope_with d) t.left ≡ true) × (operand_declared (scope_with d) t.right ≡ true)
test_read d a c b =
    let P : Test → Type 0 = λ t. (operand_declared (scope_with d) t.left ≡ true) × (operand_declared (scope_with d) t.right ≡ true) in
    then_has P (read_operand d a) _ (λ left rl.
    then_has P (read_operand d b) _ (λ right rr.
    made P (record { left = left; comparison = c; right = right }) (operand_read d a left rl, operand_read d b right rr)))

pub behaves : (d : Declared) (s : Sentence) (st : Statement) → read_sentence d s ≡ Ok st → Behaves d s st
behaves d (set n a o b) =
    then_has (Behaves d (set n a o b)) (read_target d n) _ (λ target rt.
    then_has (Behaves d (set n a o b)) (read_operand d a) _ (λ left rl.
    then_has (Behaves d (set n a o b)) (read_operand d b) _ (λ right rr.
    made (Behaves d (set n a o b)) (Statement.Set target left o right) (record {
      declares = and_from _ _ (both _ _ (operand_read d a left rl) (operand_read d b right rr)) (and_from _ _ (one _ (target_read d n target rt)) refl);
      ends_as = refl;
      near = λ n _. straight n;
    }))))
behaves d (emit a) =
    then_has (Behaves d (emit a)) (read_operand d a) _ (λ operand ro.
    made (Behaves d (emit a)) (Statement.Emit operand) (record {
      declares = and_from _ _ (one _ (operand_read d a operand ro)) refl;
      ends_as = refl;
      near = λ n _. straight n;
    }))
behaves d (skip k a c b) =
    then_has (Behaves d (skip k a c b)) (read_reach k) _ (λ reach rk.
    then_has (Behaves d (skip k a c b)) (read_test d a c b) _ (λ test rt.
    let known = test_read d a c b test rt in
    made (Behaves d (skip k a c b)) (Statement.Skip reach test) (record {
      declares = and_from _ _ (both _ _ known.0 known.1) refl;
      ends_as = refl;
      near = λ n l. and_from _ _ (le-leb 0 (n - 1) (omega arith)) (one _ (le-leb reach.count (n - 1) (let e = reach_read k reach rk in omega arith)));
    })))
behaves d (next t) =
    then_has (Behaves d (next t)) (read_task d t) _ (λ chosen rt.
    made (Behaves d (next t)) (Statement.Next chosen) (record {
      declares = one _ (task_read d t chosen rt);
      ends_as = refl;
      near = λ n _. straight n;
    }))
behaves d (choose t a c b u) =
    then_has (Behaves d (choose t a c b u)) (read_task d t) _ (λ chosen rt.
    then_has (Behaves d (choose t a c b u)) (read_test d a c b) _ (λ test rt′.
    then_has (Behaves d (choose t a c b u)) (read_task d u) _ (λ otherwise ru.
    let known = test_read d a c b test rt′ in
    made (Behaves d (choose t a c b u)) (Statement.Choose test chosen otherwise) (record {
      declares = and_from _ _ (both _ _ known.0 known.1) (both _ _ (task_read d t chosen rt) (task_read d u otherwise ru));
      ends_as = refl;
      near = λ n _. straight n;
    }))))
behaves d stop = made (Behaves d stop) Statement.Stop (record { declares = refl; ends_as = refl; near = λ n _. straight n })
