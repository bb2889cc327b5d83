-- What a memory is looked into for, and the cabinet over it.
use Rattle.std.proofs.Common.{◌≡◌, ℕ, ◌+◌, ◌-◌, ◌<◌, ◌≤◌, Bool, true, false, not, ◌||◌, cond, ltb, eqb, nat_le, length, is_some, Option, Some, None, List, slice_index, suc, ap, ap₂, sym, refl, ◌∙◌, inl, inr, subst, arith}
use Rattle.std.proofs.lemmas.Bool.{cases_lt, lt-ltb, le-ltb, ne_eqb}
use Rattle.memory.specs.declared.interface.Memory.{Ghosts}
use Rattle.memory.specs.Value.{Value}
use Rattle.program.specs.declared.check.Scope.{Scope}
use Rattle.program.specs.declared.program.Program.{Program}
use Rattle.program.specs.declared.statement.Index.{Index}
use Rattle.program.specs.declared.statement.Next.{Next}
use Rattle.program.specs.Programs.{program_source}
use Rattle.program.specs.Runs.{next_word}
use Rattle.program.specs.Sound.{Source, scope_of}
use Rattle.facts.specs.declared.costs.TaskFacts.{TaskFacts}
use Rattle.rules.specs.declared.rules.Rules.{Rules}
use Rattle.rules.specs.Known.{FactsTold}
use Rattle.rules.proofs.Making.{few_tasks}
use Rattle.layout.specs.Chains.{astray, entry_at, entry_sound, log_astray, next_known}
use Rattle.layout.specs.Places.{length_place, next_place}
use Rattle.calls.specs.declared.unready.Unready.{Unready}
use Rattle.calls.specs.Lawful.{Lawful}
use Rattle.calls.specs.Opening.{unfit, unopened}
use Rattle.calls.specs.Stages.{Stage}
use Rattle.calls.specs.Words.{next_at}
use Rattle.calls.proofs.Keeps.{open_keeps}
use Rattle.cabinet.specs.declared.cabinet.Cabinet.{Cabinet}
use Rattle.cabinet.specs.declared.cabinet.chain_walk.Entry.{Entry}
use Rattle.cabinet.specs.declared.cabinet.chain_walk.Look.{Look}
use Rattle.cabinet.specs.declared.cabinet.opening.Found.{Found}
use Rattle.cabinet.specs.Cabinets.{Readable, source}
use Rattle.cabinet.specs.Openings.{IsFound, IsOver, look_of}
use Rattle.cabinet.specs.States.{stage_of}
use Rattle.cabinet.proofs.Next.{next_is, next_stops}

-- KNOWN TASKS

-- a word that says a task is the task's number
task_number : (w : ℕ) (t : Index 16) → next_at w ≡ Next.Task t → (w < 16) × (t.number ≡ w)
task_number w t e =
    elim (cases_lt w 16) [
      | inl low ↦
          let task : Next.Task (record { number = w; known = low }) ≡ Next.Task t = next_is w w _ refl refl ∙ e in
          (low, sym (ap next_word task))
      | inr high ↦ let stop = next_stops w high in absurd cc
    ]

-- and one that says a stop is none
stop_above : (w : ℕ) → next_at w ≡ Next.Stopped → 16 ≤ w
stop_above w e =
    elim (cases_lt w 16) [
      | inl low ↦ let task = next_is w w (record { number = w; known = low }) refl refl in absurd cc
      | inr high ↦ high
    ]

-- there are facts of exactly the known tasks
told_known : (p : Program) (t : ℕ) (r : Option TaskFacts) → t < 16 → FactsTold (program_source p) t r → is_some r ≡ next_known (length (program_source p).tasks) t
told_known p t None l told = sym (ap (λ b. b || eqb t 16) (le-ltb t (length (program_source p).tasks) told) ∙ ne_eqb t 16 (λ e. omega arith))
told_known p t (Some f) l told = sym (ap (λ b. b || eqb t 16) (lt-ltb t (length (program_source p).tasks) told.there))

-- a task's word is known exactly when there are facts of the task
pub task_known : (p : Program) (w : ℕ) (t : Index 16) (r : Option TaskFacts) → next_at w ≡ Next.Task t → FactsTold (program_source p) t.number r → is_some r ≡ next_known (length (program_source p).tasks) w
task_known p w t r e told =
    let parts = task_number w t e in
    let here : FactsTold (program_source p) w r = subst (λ n. FactsTold (program_source p) n r) parts.1 told in
    told_known p w r parts.0 here

-- another word is known when it is a stop's
pub stop_known : (p : Program) (w : ℕ) → next_at w ≡ Next.Stopped → eqb w 16 ≡ next_known (length (program_source p).tasks) w
stop_known p w e =
    let high = stop_above w e in
    let few = few_tasks p in
    let past : ltb w (length (program_source p).tasks) ≡ false = le-ltb w (length (program_source p).tasks) (omega arith) in
    sym (ap (λ b. b || eqb w 16) past)

-- ALONG THE CHAIN

-- whether the chain from an entry on is astray, by what is found at the entry and by the k entries behind it
abbrev walked : ℕ → Scope → List ℕ → ℕ → Look → Bool
walked k n ws e Look.Astray = true
walked k n ws e Look.Last = false
walked k n ws e (Look.On place) = astray k n ws (e + 3) place

by_tests : (k : ℕ) (n : Scope) (ws : List ℕ) (e place : ℕ) (sound last behind : Bool)
    → (not sound || cond last false (not behind || astray k n ws (e + 3) place)) ≡ walked k n ws e (cond (not sound) Look.Astray (cond last Look.Last (cond behind (Look.On place) Look.Astray)))
by_tests k n ws e place false last behind = refl
by_tests k n ws e place true true behind = refl
by_tests k n ws e place true false true = refl
by_tests k n ws e place true false false = refl

abbrev pub entry_in : List ℕ → ℕ → Entry
entry_in ws e = record { next = slice_index ws e; store = entry_at ws e }

-- after k of at most m entries, the next one is looked at
module _ (m k : ℕ) (n : Scope) (ws : List ℕ) (e before : ℕ) (l : k < m) where
  walked_by : (look : Look) → look_of n e before (entry_in ws e) ≡ look → astray (m - k) n ws e before ≡ walked (m - (k + 1)) n ws e look
  unfolding astray look_of
  walked_by look h =
      let one : m - k ≡ suc (m - (k + 1)) = omega arith in
      ap (λ j. astray j n ws e before) one
      ∙ by_tests (m - (k + 1)) n ws e (entry_at ws e).place (entry_sound n before (entry_at ws e)) (eqb (slice_index ws e) 0) (eqb (slice_index ws e) (e + 3))
      ∙ ap (walked (m - (k + 1)) n ws e) h

  pub found_astray : look_of n e before (entry_in ws e) ≡ Look.Astray → astray (m - k) n ws e before ≡ true
  found_astray h = walked_by Look.Astray h

  pub found_last : look_of n e before (entry_in ws e) ≡ Look.Last → astray (m - k) n ws e before ≡ false
  found_last h = walked_by Look.Last h

  pub found_on : (place f : ℕ) → look_of n e before (entry_in ws e) ≡ Look.On place → f ≡ e + 3 → astray (m - k) n ws e before ≡ astray (m - (k + 1)) n ws f place
  found_on place f h next = walked_by (Look.On place) h ∙ ap (λ at. astray (m - (k + 1)) n ws at place) (sym next)

-- and behind all of them none is
pub none_left : (m k : ℕ) (n : Scope) (ws : List ℕ) (e before : ℕ) → m ≤ k → astray (m - k) n ws e before ≡ true
unfolding astray
none_left m k n ws e before l = let none : m - k ≡ 0 = omega arith in ap (λ j. astray j n ws e before) none

-- WHY A MEMORY IS REFUSED

-- why the words of a memory that is fit are not well formed: the last tests of `unopened`
unfoldable pub ill_formed : Source → List ℕ → Option Unready
ill_formed p ws =
    cond (not (next_known (length p.tasks) (slice_index ws next_place))) (Some Unready.NextTask)
    (cond (not (nat_le (slice_index ws length_place) 8)) (Some Unready.RecordLength)
    (cond (log_astray (scope_of p) ws) (Some Unready.Astray) None))

-- a memory that is not fit is refused for that
pub unopened_unfit : (p : Source) (v : Value) (why : Unready) → unfit p v ≡ Some why → unopened p v ≡ Some why
unfolding ill_formed
unopened_unfit p v why e = ap (λ (o : Option Unready). elim o [ Some why ↦ Some why | None ↦ ill_formed p v.words ]) e

-- a memory that is fit can be read
pub fit_readable : (p : Source) (v : Value) → unfit p v ≡ None → Readable p v
fit_readable p v e = record { lit = grind arith; long = grind arith }

-- and is refused if its words are not well formed
pub unopened_words : (p : Source) (v : Value) → unfit p v ≡ None → unopened p v ≡ ill_formed p v.words
unfolding ill_formed
unopened_words p v e = ap (λ (o : Option Unready). elim o [ Some why ↦ Some why | None ↦ ill_formed p v.words ]) e

-- THE CABINET

-- with the state and the task that are found in its memory it is what is opened, and lawful
pub is_over : {M : Type 0} (memory : Ghosts M) (rules : Rules) (m : M) (found : Found) (c : Cabinet M memory) → c.rules.now ≡ rules → c.memory ≡ m → c.state ≡ found.state → c.task ≡ found.task → IsOver memory (source rules) m found c
unfolding IsFound IsOver
is_over memory rules m found c same_rules same_memory state task =
    subst (λ (r : Rules). IsOver memory (source r) m found c) same_rules
    (subst (λ n. IsOver memory (source c.rules.now) n found c) same_memory
    (λ finds lawful.
    let v = memory.seen c.memory in
    let p = source c.rules.now in
    let is = finds lawful in
    let same = ap₂ (λ (s : Stage) (t : Next). record { program = p; memory = v; stage = s; task = t }) (ap stage_of state ∙ is.1) (task ∙ is.2) in
    record {
      none = is.0;
      held = same;
      lawful = record { memory_lawful = lawful; lawful = subst Lawful (sym same) (open_keeps p v c.rules.now.program.checked (memory.limits c.memory lawful) is.0) };
    }))
