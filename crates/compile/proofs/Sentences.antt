-- What is read with the names of the lines before a statement is read with those of the whole text too.
use Rattle.std.proofs.Common.{arith, ◌≡◌, refl, sym, ap, ◌∙◌, ℕ, ◌<◌, Bool, true, List, ◌++◌, ◌+◌, cond, ltb, length, length-append, Option, Some, None, Ok, Err, Result}
use Rattle.std.specs.List.{filter_map, position, position_or_len}
use Rattle.std.specs.Option.{is_some, ok_or, option_and_then, option_map, option_or}
use Rattle.std.specs.Result.{result_err}
use Rattle.std.proofs.lemmas.Bool.{ltb-true, lt-ltb}
use Rattle.std.proofs.lemmas.List.Elements.{filter_map-append}
use Rattle.std.proofs.lemmas.List.Folds.{prefix_len-append}
use Rattle.std.proofs.lemmas.Option.{cond_some}
use Rattle.program.specs.declared.statement.Comparison.{Comparison}
use Rattle.program.specs.declared.statement.Operand.{Operand}
use Rattle.program.specs.declared.statement.Target.{Target}
use Rattle.program.specs.Runs.{reading}
use Rattle.text.specs.declared.refusal.Refusal.{Refusal}
use Rattle.text.specs.Tokens.{Tok, word, number, comment, sign, text_of, place_of}
use Rattle.forms.specs.Forms.{Line, Sentence, set, emit, skip, next, choose, stop, slots_of}
use Rattle.compile.proofs.Accepting.{either_none}
use Rattle.grammar.specs.Names.{Declared, index_in, index_of, local_name, names_of, place_among, variable_name}
use Rattle.grammar.specs.Reading.{first_of, input_named, name_offence, operand_named, read_operand, read_reach, read_sentence, read_target, read_task, read_test, slot_offence, target_named, then}

-- A name found among some names is found at the same place with more behind them

position_grows : {A : Type 0} (p : A → Bool) (xs ys : List A) (i : ℕ) → position p xs ≡ Some i → position p (xs ++ ys) ≡ Some i
position_grows p xs ys i e =
    let found = cond_some _ _ _ e in
    let inside : position_or_len p xs < length xs = ltb-true _ _ found.0 in
    let grown : position_or_len p (xs ++ ys) ≡ position_or_len p xs = grind (arith, prefix_len-append) in
    let longer : length (xs ++ ys) ≡ length xs + length ys = length-append xs ys in
    ap (λ n. cond (ltb n (length (xs ++ ys))) (Some n) None) grown ∙ ap (λ b. cond b (Some (position_or_len p xs)) None) (lt-ltb _ _ (omega arith)) ∙ ap Some found.1

place_grows : (names more : List (List ℕ)) (name : List ℕ) (i : ℕ) → place_among names name ≡ Some i → place_among (names ++ more) name ≡ Some i
unfolding place_among
place_grows names more name i e = position_grows _ names more i e

index_grows_from : (N : ℕ) (o o′ : Option ℕ) → ((i : ℕ) → o ≡ Some i → o′ ≡ Some i) → is_some (option_and_then (index_of {N = N}) o) ≡ true → is_some (option_and_then (index_of {N = N}) o′) ≡ true
index_grows_from N None o′ same e = absurd (cc)
index_grows_from N (Some i) o′ same e = ap (λ o. is_some (option_and_then (index_of {N = N}) o)) (same i refl) ∙ e

index_grows : (N : ℕ) (names more : List (List ℕ)) (name : List ℕ) → is_some (index_in {N = N} names name) ≡ true → is_some (index_in {N = N} (names ++ more) name) ≡ true
index_grows N names more name = index_grows_from N (place_among names name) (place_among (names ++ more) name) (place_grows names more name)

-- A choice of two, each of which stays known

some_map : {A B : Type 0} (f : A → B) (o : Option A) → is_some (option_map f o) ≡ is_some o
some_map f None = refl
some_map f (Some x) = refl

mapped_grows : {A B : Type 0} (f : A → B) (o o′ : Option A) → (is_some o ≡ true → is_some o′ ≡ true) → is_some (option_map f o) ≡ true → is_some (option_map f o′) ≡ true
mapped_grows f o o′ g h = some_map f o′ ∙ g (sym (some_map f o) ∙ h)

or_grows : {A : Type 0} (x y x′ y′ : Option A) → (is_some x ≡ true → is_some x′ ≡ true) → (is_some y ≡ true → is_some y′ ≡ true) → is_some (option_or x y) ≡ true → is_some (option_or x′ y′) ≡ true
or_grows x y (Some b) y′ f g h = refl
or_grows None y None y′ f g h = g h
or_grows {A} (Some a) y None y′ f g h = let no : is_some {T = A} None ≡ true = f refl in absurd (cc)

known : {A E : Type 0} (o : Option A) (e : E) → result_err (ok_or o e) ≡ None → is_some o ≡ true
known None e h = absurd (cc)
known (Some x) e h = refl

known_read : {A E : Type 0} (o : Option A) (e : E) → is_some o ≡ true → result_err (ok_or o e) ≡ None
known_read None e h = absurd (cc)
known_read (Some x) e h = refl

-- the names d, with more of each kind behind them
record Grows (d e : Declared) : Type 0 where
  pub variables : (more : List (List ℕ)) × (e.variables ≡ d.variables ++ more)
  pub locals : (more : List (List ℕ)) × (e.locals ≡ d.locals ++ more)

names_grow : (before more : List Line) → Grows (names_of before) (names_of (before ++ more))
names_grow before more = record {
  variables = (filter_map variable_name more, filter_map-append variable_name before more);
  locals = (filter_map local_name more, filter_map-append local_name before more);
}

module _ (d e : Declared) (grows : Grows d e) where
  variable_grows : (name : List ℕ) → is_some (index_in {N = 48} d.variables name) ≡ true → is_some (index_in {N = 48} e.variables name) ≡ true
  variable_grows name h = ap (λ names. is_some (index_in {N = 48} names name)) grows.variables.1 ∙ index_grows 48 d.variables grows.variables.0 name h

  local_grows : (name : List ℕ) → is_some (index_in {N = 8} d.locals name) ≡ true → is_some (index_in {N = 8} e.locals name) ≡ true
  local_grows name h = ap (λ names. is_some (index_in {N = 8} names name)) grows.locals.1 ∙ index_grows 8 d.locals grows.locals.0 name h

  target_grows : (name : List ℕ) → is_some (target_named d name) ≡ true → is_some (target_named e name) ≡ true
  target_grows name =
      or_grows (option_map Target.Variable (index_in d.variables name)) (option_map Target.Local (index_in d.locals name))
      (option_map Target.Variable (index_in e.variables name)) (option_map Target.Local (index_in e.locals name))
      (mapped_grows Target.Variable (index_in d.variables name) (index_in e.variables name) (variable_grows name))
      (mapped_grows Target.Local (index_in d.locals name) (index_in e.locals name) (local_grows name))

  operand_grows : (name : List ℕ) → is_some (operand_named d name) ≡ true → is_some (operand_named e name) ≡ true
  operand_grows name =
      or_grows (option_map Operand.Input (input_named name)) (option_map reading (target_named d name))
      (option_map Operand.Input (input_named name)) (option_map reading (target_named e name))
      (λ h. h)
      (mapped_grows reading (target_named d name) (target_named e name) (target_grows name))

  target_reads : (t : Tok) → result_err (read_target d t) ≡ None → result_err (read_target e t) ≡ None
  target_reads t h = known_read (target_named e (text_of t)) (Refusal.Unknown (place_of t)) (target_grows (text_of t) (known (target_named d (text_of t)) (Refusal.Unknown (place_of t)) h))

  operand_reads : (t : Tok) → result_err (read_operand d t) ≡ None → result_err (read_operand e t) ≡ None
  operand_reads (number text p) h = h
  operand_reads (word text p) h = known_read (operand_named e text) (Refusal.Unknown p) (operand_grows text (known (operand_named d text) (Refusal.Unknown p) h))
  operand_reads (comment text p) h = known_read (operand_named e text) (Refusal.Unknown p) (operand_grows text (known (operand_named d text) (Refusal.Unknown p) h))
  operand_reads (sign text p) h = known_read (operand_named e text) (Refusal.Unknown p) (operand_grows text (known (operand_named d text) (Refusal.Unknown p) h))

-- what is read without a refusal
pub was_read : {A : Type 0} (r : Result A Refusal) → result_err r ≡ None → (x : A) × (r ≡ Ok x)
was_read (Ok x) h = (x, refl)
was_read (Err e) h = absurd (cc)

-- What offends in a row of things that are read one after another

then_known : {A B : Type 0} (r : Result A Refusal) (make : A → Result B Refusal) (o : Option Refusal) → result_err r ≡ None → ((x : A) → result_err (make x) ≡ o) → result_err (then r make) ≡ o
then_known (Ok x) make o h on = on x
then_known (Err e) make o h on = absurd (cc)

then_first : {A B : Type 0} (r : Result A Refusal) (make : A → Result B Refusal) (o : Option Refusal) → ((x : A) → result_err (make x) ≡ o) → result_err (then r make) ≡ option_or (result_err r) o
then_first (Ok x) make o on = on x
then_first (Err e) make o on = refl

test_reads : (d e : Declared) → Grows d e → (a : Tok) (c : Comparison) (b : Tok) → result_err (read_operand d a) ≡ None → result_err (read_operand d b) ≡ None → result_err (read_test e a c b) ≡ None
test_reads d e g a c b p q = then_known (read_operand e a) _ None (operand_reads d e g a p) (λ left. then_known (read_operand e b) _ None (operand_reads d e g b q) (λ right. refl))

sentence_reads : (d e : Declared) → Grows d e → (s : Sentence) → first_of (slot_offence d) (slots_of s) ≡ None → result_err (read_sentence e s) ≡ first_of (name_offence e) (slots_of s)
sentence_reads d e g (set n a o b) h =
    let p = either_none (result_err (read_target d n)) _ h in
    let q = either_none (result_err (read_operand d a)) _ p.1 in
    let r = either_none (result_err (read_operand d b)) _ q.1 in
    then_known (read_target e n) _ None (target_reads d e g n p.0) (λ target.
    then_known (read_operand e a) _ None (operand_reads d e g a q.0) (λ left.
    then_known (read_operand e b) _ None (operand_reads d e g b r.0) (λ right. refl)))
sentence_reads d e g (emit a) h = then_known (read_operand e a) _ None (operand_reads d e g a (either_none (result_err (read_operand d a)) None h).0) (λ operand. refl)
sentence_reads d e g (skip k a c b) h =
    let p = either_none (result_err (read_reach k)) _ h in
    let q = either_none (result_err (read_operand d a)) _ p.1 in
    let r = either_none (result_err (read_operand d b)) _ q.1 in
    then_known (read_reach k) _ None p.0 (λ reach. then_known (read_test e a c b) _ None (test_reads d e g a c b q.0 r.0) (λ test. refl))
sentence_reads d e g (next t) h = then_first (read_task e t) _ None (λ task. refl)
sentence_reads d e g (choose t a c b u) h =
    let q = either_none (result_err (read_operand d a)) _ h in
    let r = either_none (result_err (read_operand d b)) _ q.1 in
    then_first (read_task e t) _ _ (λ chosen. then_known (read_test e a c b) _ _ (test_reads d e g a c b q.0 r.0) (λ test. then_first (read_task e u) _ None (λ otherwise. refl)))
sentence_reads d e g stop h = refl

pub sentence_offence : (before : List Line) (whole : List Line) (more : List Line) (s : Sentence) → whole ≡ before ++ more → first_of (slot_offence (names_of before)) (slots_of s) ≡ None → result_err (read_sentence (names_of whole) s) ≡ first_of (name_offence (names_of whole)) (slots_of s)
sentence_offence before whole more s e h =
    rw e (sentence_reads (names_of before) (names_of (before ++ more)) (names_grow before more) s h)
