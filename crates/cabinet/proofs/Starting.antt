-- An attempt that begins: its working copies, and that it fits.
use Rattle.std.proofs.Common.{◌≡◌, ℕ, ◌+◌, ◌<◌, ◌≤◌, false, true, Bool, cond, List, [], ◌∷◌, zero, suc, arith, refl, length-drop, take, drop, replicate, get_or, slice_index, slice_set, Ok, Result, length, ap, sym, ◌∙◌}
use Rattle.std.proofs.lemmas.List.{get_or-drop, get_or-replicate, get_or_past, length-replicate}
use Rattle.memory.specs.declared.fault.Fault.{Fault}
use Rattle.memory.specs.Value.{Value}
use Rattle.program.specs.Paths.{logged_test}
use Rattle.program.specs.Sound.{Source, sound, task_of}
use Rattle.laws.specs.Views.{overlay}
use Rattle.facts.specs.declared.costs.TaskFacts.{TaskFacts}
use Rattle.facts.specs.Membership.{has_of}
use Rattle.facts.specs.declared.set.VariableSet.{VariableSet}
use Rattle.facts.specs.Sets.{empty, has}
use Rattle.rules.specs.Known.{AreFacts, task_facts}
use Rattle.layout.specs.Places.{variable_place}
use Rattle.calls.specs.Running.{logs, started}
use Rattle.calls.proofs.Fits.{FitsParts, fits_parts, parts_fit, start_fits}
use Rattle.calls.specs.Words.{variables_in}
use Rattle.cabinet.specs.Cabinets.{Readable}
use Rattle.cabinet.specs.Starting.{Fits, IsLogged, before_first}

-- what the facts of a task say that it logs
pub logged_told : (p : Source) (t : ℕ) (f : TaskFacts) (set : VariableSet) → AreFacts p t f → set ≡ f.logged → IsLogged p t set
unfolding task_facts
logged_told p t f set h same = record {
  told = λ v l. ap (λ s. has s v) (same ∙ ap (λ (f : TaskFacts). f.logged) h.same) ∙ has_of (logged_test (task_of p t)) v l;
}

-- a task that the program lacks logs nothing
pub lacking_logs : (p : Source) (t : ℕ) (set : VariableSet) → length p.tasks ≤ t → set ≡ empty → IsLogged p t set
unfolding empty
lacking_logs p t set past none = record {
  told = λ v l. ap (λ s. has s v) none ∙ has_of (λ v. false) v l ∙ sym (ap (λ task. logged_test task v) (get_or_past p.tasks t [] past));
}

-- THE WORKING COPIES

-- one copy more
overlay_more : (test : ℕ → Bool) (cs ms : List ℕ) (i : ℕ) → i < length cs → i < length ms
    → overlay test (take (i + 1) cs) ms ≡ slice_set (overlay test (take i cs) ms) i (cond (test i) (get_or cs i 0) (get_or ms i 0))
overlay_more test [] ms i in_cs in_ms = absurd (omega arith)
overlay_more test (c ∷ cs) [] i in_cs in_ms = absurd (omega arith)
overlay_more test (c ∷ cs) (m ∷ ms) zero in_cs in_ms = refl
overlay_more test (c ∷ cs) (m ∷ ms) (suc i) in_cs in_ms =
    let more : suc i + 1 ≡ suc (i + 1) = omega arith in
    rw more (ap (λ xs. cond (test 0) c m ∷ xs) (overlay_more (λ v. test (suc v)) cs ms i (omega arith) (omega arith)))

-- over zeros
copies_more : (test : ℕ → Bool) (cs : List ℕ) (n i : ℕ) → i < length cs → i < n
    → overlay test (take (i + 1) cs) (replicate n 0) ≡ slice_set (overlay test (take i cs) (replicate n 0)) i (cond (test i) (get_or cs i 0) 0)
copies_more test cs n i in_cs in_zeros =
    overlay_more test cs (replicate n 0) i in_cs (omega (arith, length-replicate {A = ℕ} n 0))
    ∙ ap (λ zero. slice_set (overlay test (take i cs) (replicate n 0)) i (cond (test i) (get_or cs i 0) zero)) (get_or-replicate n i 0 0 in_zeros)

-- The copies of the variables below i have been read.
pub record Copied (p : Source) (v : Value) (lawful : Type 0) (set : VariableSet) (i : ℕ) (copies : List ℕ) : Type 0 where
  pub same : lawful → Readable p v → copies ≡ overlay (has set) (take i (drop (variable_place 0) v.words)) (replicate 48 0)

-- none yet
pub copied_none : (p : Source) (v : Value) (lawful : Type 0) (set : VariableSet) (copies : List ℕ) → copies ≡ replicate 48 0 → Copied p v lawful set 0 copies
copied_none p v lawful set copies e = record { same = λ l r. e }

-- one more, as it was read
pub copied_more : (p : Source) (v : Value) (lawful : Type 0) (set : VariableSet) (i word : ℕ) (copies after : List ℕ) (r : Result ℕ Fault)
    → Copied p v lawful set i copies
    → (i < length p.firsts → lawful → Readable p v → r ≡ Ok (cond (has set i) (slice_index v.words (variable_place i)) 0)) → r ≡ Ok word
    → i < length p.firsts → length p.firsts ≤ 48 → after ≡ slice_set copies i word
    → Copied p v lawful set (i + 1) after
copied_more p v lawful set i word copies after r h reads was inside few e = record {
  same =
      λ l readable.
      let vs : List ℕ = drop (variable_place 0) v.words in
      let long = readable.long in
      let here : i < length vs = omega (arith, length-drop (variable_place 0) v.words) in
      let word_is : word ≡ cond (has set i) (slice_index v.words (variable_place i)) 0 = let read = reads inside l readable in cc in
      let there : slice_index v.words (variable_place i) ≡ get_or vs i 0 = sym (get_or-drop (variable_place 0) v.words i 0) in
      let next = copies_more (has set) vs 48 i here (omega arith) in
      e ∙ ap (λ xs. slice_set xs i word) (h.same l readable) ∙ ap (slice_set (overlay (has set) (take i vs) (replicate 48 0)) i) (word_is ∙ ap (λ w. cond (has set i) w 0) there) ∙ sym next;
}

-- tests that agree overlay the same
overlay_same : (f g : ℕ → Bool) (cs ms : List ℕ) → ((v : ℕ) → v < length ms → f v ≡ g v) → overlay f cs ms ≡ overlay g cs ms
overlay_same f g [] ms h = refl
overlay_same f g (c ∷ cs) [] h = refl
overlay_same f g (c ∷ cs) (m ∷ ms) h =
    ap (λ b. cond b c m ∷ overlay (λ v. f (suc v)) cs ms) (h 0 (omega arith))
    ∙ ap (λ xs. cond (g 0) c m ∷ xs) (overlay_same (λ v. f (suc v)) (λ v. g (suc v)) cs ms (λ v l. h (suc v) (omega arith)))

-- all, by what the task logs
pub copied_all : (p : Source) (v : Value) (lawful : Type 0) (t : ℕ) (set : VariableSet) (i : ℕ) (copies : List ℕ)
    → Copied p v lawful set i copies → IsLogged p t set → i ≡ length p.firsts → lawful → Readable p v
    → copies ≡ overlay (logs p t) (variables_in p v.words) (replicate 48 0)
copied_all p v lawful t set i copies h logged e l readable =
    h.same l readable ∙ ap (λ k. overlay (has set) (take k (drop (variable_place 0) v.words)) (replicate 48 0)) e
    ∙ overlay_same (has set) (logs p t) (variables_in p v.words) (replicate 48 0) (λ v l. logged.told v (omega (arith, length-replicate {A = ℕ} 48 0)))

-- THE ATTEMPT

-- before its first statement it fits, with any copies
pub fits_before : (p : Source) (t : ℕ) (row emitted copies : List ℕ) (set : VariableSet)
    → sound p ≡ true → t < length p.tasks → length row ≡ 8 → emitted ≡ [] → length copies ≡ 48 → set ≡ empty
    → Fits p (record { task = t; at = 0; inputs = row; locals = replicate 8 0; emitted = emitted; copies = copies; set = set })
fits_before p t row emitted copies set h l full none many clear =
    let begun = fits_parts p (started p t row []) (start_fits p t row [] h l full) in
    let parts : FitsParts p (before_first t row copies) = record {
      task = begun.task;
      at = begun.at;
      room = begun.room;
      set = begun.set;
      inputs = begun.inputs;
      locals = begun.locals;
      copies = many;
    } in
    rw (none, clear) (record { fits = parts_fit p (before_first t row copies) parts })
