-- What a lawful cabinet finds where a visit may begin.
use Rattle.std.proofs.Common.{◌≡◌, ℕ, ◌<◌, Bool, true, false, cond, not, eqb, List, length, Ok, Err, Result, refl, sym, ap, ◌∙◌, subst}
use Rattle.memory.specs.declared.interface.Memory.{Ghosts}
use Rattle.memory.specs.Value.{Value}
use Rattle.program.specs.declared.statement.Index.{Index}
use Rattle.program.specs.declared.statement.Next.{Next}
use Rattle.program.specs.Sound.{Source}
use Rattle.program.proofs.Indices.{same_index}
use Rattle.plain.specs.Plain.{last_number}
use Rattle.calls.specs.declared.refusal.Why.{Why}
use Rattle.calls.specs.Calls.{begun}
use Rattle.calls.specs.Lawful.{Lawful}
use Rattle.calls.specs.Running.{started}
use Rattle.calls.specs.Stages as value
use Rattle.calls.specs.Stages.{Held, Stage}
use Rattle.calls.specs.Steps.{Outcome, answered, come_to, refused}
use Rattle.calls.specs.Words.{next_in, number_in}
use Rattle.calls.proofs.Keeps.{begin_keeps, task_known}
use Rattle.calls.proofs.KeepsSteps.{in_state}
use Rattle.calls.proofs.KeepsStores.{lit_sure, words_formed}
use Rattle.cabinet.specs.declared.cabinet.Cabinet.{Cabinet}
use Rattle.cabinet.specs.declared.state.Attempt.{Attempt}
use Rattle.cabinet.specs.Beginnings.{Begins, Enters, admitted, attempted, begins_with, next_task, task_to_begin}
use Rattle.cabinet.specs.Cabinets.{IsLawful, Readable, held, source}
use Rattle.cabinet.specs.States.{attempt_of, stage_of}

-- The memory

begins_task : (stage : Stage) (next : Next) (t : Index 16) → task_to_begin stage next ≡ Ok t → next ≡ Next.Task t
unfolding task_to_begin
begins_task Stage.Settled (Next.Task u) t e = cc
begins_task Stage.Settled Next.Stopped t e = cc
begins_task Stage.Rest (Next.Task u) t e = cc
begins_task Stage.Rest Next.Stopped t e = cc
begins_task (Stage.Running a) next t e = cc
begins_task (Stage.Logging es k) next t e = cc
begins_task (Stage.Applying due) next t e = cc
begins_task Stage.Dark next t e = cc

-- where it can be read, the next task is the program's
pub next_known_here : {M : Type 0} (memory : Ghosts M) (c : Cabinet M memory) (t : Index 16)
    → IsLawful memory c
    → Readable (source c.rules.now) (memory.seen c.memory)
    → next_in (memory.seen c.memory).words ≡ Next.Task t
    → t.number < length (source c.rules.now).tasks
next_known_here memory c t l r e =
    let v : Value = memory.seen c.memory in
    let formed = words_formed (held memory c) l.lawful (lit_sure v (memory.limits c.memory l.memory_lawful) r.lit) in
    task_known _ _ t formed.next e

-- Begin's tests

abbrev pub goes_to : Held → value.Attempt → Outcome (Unit {0})
goes_to h a = record { answer = Ok tt; left = come_to h h.memory (Stage.Running a) }

module _ (h : Held) where
  abbrev at_task : (Index 16 → Outcome (Unit {0})) → Next → Outcome (Unit {0})
  at_task f next = elim next [ Next.Stopped ↦ refused h Why.Stopped | Next.Task t ↦ f t ]

  no_task : (f : Index 16 → Outcome (Unit {0})) (next : Next) (why : Why) → next_task next ≡ Err why → at_task f next ≡ refused h why
  no_task f Next.Stopped why e = cc
  no_task f (Next.Task t) why e = cc

  a_task : (f : Index 16 → Outcome (Unit {0})) (next : Next) (t : Index 16) → next_task next ≡ Ok t → at_task f next ≡ f t
  a_task f Next.Stopped t e = cc
  a_task f (Next.Task u) t e = let d : u ≡ t = cc in ap f d

  abbrev at_tests : Bool → Bool → Bool → Outcome (Unit {0}) → Outcome (Unit {0})
  at_tests b c d o = cond b (refused h Why.NotTaken) (cond c (refused h Why.RowLength) (cond d (refused h Why.LastNumber) o))

  abbrev tests : Bool → Bool → Bool → List ℕ → Result (List ℕ) Why
  tests b c d row = cond b (Err Why.NotTaken) (cond c (Err Why.RowLength) (cond d (Err Why.LastNumber) (Ok row)))

  fail : (b c d : Bool) (row : List ℕ) (o : Outcome (Unit {0})) (why : Why) → tests b c d row ≡ Err why → at_tests b c d o ≡ refused h why
  fail true c d row o why e = cc
  fail false true d row o why e = cc
  fail false false true row o why e = cc
  fail false false false row o why e = cc

  pass : (b c d : Bool) (row words : List ℕ) (o : Outcome (Unit {0})) → tests b c d row ≡ Ok words → (at_tests b c d o ≡ o) × (row ≡ words)
  pass true c d row words o e = cc
  pass false true d row words o e = cc
  pass false false true row words o e = cc
  pass false false false row words o e = (refl, cc)

-- in a state with no visit under way the task is looked at
refused_in : (p : Source) (v : Value) (task : Next) (stage : Stage) (taken : ℕ) (row : List ℕ) (why : Why) → task_to_begin stage (next_in v.words) ≡ Err why → begun (in_state p v task stage) taken row ≡ refused (in_state p v task stage) why
unfolding task_to_begin
refused_in p v task Stage.Settled taken row why e = no_task (in_state p v task Stage.Settled) _ (next_in v.words) why e
refused_in p v task Stage.Rest taken row why e = no_task (in_state p v task Stage.Rest) _ (next_in v.words) why e
refused_in p v task (Stage.Running a) taken row why e = cc
refused_in p v task (Stage.Logging es k) taken row why e = cc
refused_in p v task (Stage.Applying due) taken row why e = cc
refused_in p v task Stage.Dark taken row why e = cc

abbrev with_task : Held → ℕ → List ℕ → Index 16 → Outcome (Unit {0})
with_task h taken row t =
    at_tests h (not (eqb taken (number_in h.memory.words))) (not (eqb (length row) 8)) (eqb (number_in h.memory.words) last_number)
    (goes_to h (started h.program t.number row h.memory.words))

taken_in : (p : Source) (v : Value) (task : Next) (stage : Stage) (taken : ℕ) (row : List ℕ) (t : Index 16) → task_to_begin stage (next_in v.words) ≡ Ok t → begun (in_state p v task stage) taken row ≡ with_task (in_state p v task stage) taken row t
unfolding task_to_begin
taken_in p v task Stage.Settled taken row t e = a_task (in_state p v task Stage.Settled) _ (next_in v.words) t e
taken_in p v task Stage.Rest taken row t e = a_task (in_state p v task Stage.Rest) _ (next_in v.words) t e
taken_in p v task (Stage.Running a) taken row t e = cc
taken_in p v task (Stage.Logging es k) taken row t e = cc
taken_in p v task (Stage.Applying due) taken row t e = cc
taken_in p v task Stage.Dark taken row t e = cc

-- A begin goes to the attempt, or is refused.
module _ {M : Type 0} (memory : Ghosts M) (c : Cabinet M memory) (taken : ℕ) (row : List ℕ) where
  abbrev h : Held
  h = held memory c

  abbrev next : Next
  next = next_in h.memory.words

  abbrev after_tests : Index 16 → Result (List ℕ) Why → Result value.Attempt Why
  after_tests t r = elim r [ Ok words ↦ Ok (started h.program t.number words h.memory.words) | Err why ↦ Err why ]

  abbrev after_task : Result (Index 16) Why → Result value.Attempt Why
  after_task r = elim r [ Ok t ↦ after_tests t (admitted (number_in h.memory.words) taken row) | Err why ↦ Err why ]

  no_attempt_of : (t : Index 16) (why : Why) (r : Result (List ℕ) Why) → task_to_begin h.stage next ≡ Ok t → admitted (number_in h.memory.words) taken row ≡ r → Err why ≡ after_tests t r → begun h taken row ≡ refused h why
  unfolding admitted
  no_attempt_of t why (Ok words) e f g = cc
  no_attempt_of t why (Err w) e f g = let d : Err why ≡ Err w = g in taken_in h.program h.memory h.task h.stage taken row t e ∙ fail h _ _ _ row _ w f ∙ cc

  no_attempt_with : (why : Why) (r : Result (Index 16) Why) → task_to_begin h.stage next ≡ r → Err why ≡ after_task r → begun h taken row ≡ refused h why
  no_attempt_with why (Ok t) e g = no_attempt_of t why (admitted (number_in h.memory.words) taken row) e refl g
  no_attempt_with why (Err w) e g = refused_in h.program h.memory h.task h.stage taken row w e ∙ cc

  no_attempt : (why : Why) → Err why ≡ attempted memory c taken row → begun h taken row ≡ refused h why
  unfolding attempted begins_with
  no_attempt why e = no_attempt_with why (task_to_begin h.stage next) refl e

  an_attempt_of : (t : Index 16) (a : Attempt) (r : Result (List ℕ) Why) → task_to_begin h.stage next ≡ Ok t → admitted (number_in h.memory.words) taken row ≡ r → Ok (attempt_of a) ≡ after_tests t r
      → (begun h taken row ≡ goes_to h (attempt_of a)) × (Next.Task a.task ≡ next)
  unfolding admitted
  an_attempt_of t a (Ok words) e f g =
      let d : attempt_of a ≡ started h.program t.number words h.memory.words = cc in
      let by = pass h (not (eqb taken (number_in h.memory.words))) (not (eqb (length row) 8)) (eqb (number_in h.memory.words) last_number) row words _ f in
      let same : a.task ≡ t = same_index a.task t (ap (λ (b : value.Attempt). b.task) d) in (
        taken_in h.program h.memory h.task h.stage taken row t e ∙ by.0 ∙ ap (λ ws. goes_to h (started h.program t.number ws h.memory.words)) by.1 ∙ ap (goes_to h) (sym d),
        ap Next.Task same ∙ sym (begins_task h.stage next t e),
      )
  an_attempt_of t a (Err why) e f g = cc

  an_attempt_with : (a : Attempt) (r : Result (Index 16) Why) → task_to_begin h.stage next ≡ r → Ok (attempt_of a) ≡ after_task r → (begun h taken row ≡ goes_to h (attempt_of a)) × (Next.Task a.task ≡ next)
  an_attempt_with a (Ok t) e g = an_attempt_of t a (admitted (number_in h.memory.words) taken row) e refl g
  an_attempt_with a (Err why) e g = cc

  an_attempt : (a : Attempt) → Ok (attempt_of a) ≡ attempted memory c taken row → (begun h taken row ≡ goes_to h (attempt_of a)) × (Next.Task a.task ≡ next)
  unfolding attempted begins_with
  an_attempt a e = an_attempt_with a (task_to_begin h.stage next) refl e

  pub not_begun : (why : Why) → (IsLawful memory c → Err why ≡ attempted memory c taken row) → Begins memory c taken row (Err why) c
  unfolding Begins
  not_begun why e l =
      let b = no_attempt why (e l) in
      (l, (sym (ap (λ (o : Outcome (Unit {0})). answered h o.answer) b), sym (ap (λ (o : Outcome (Unit {0})). o.left) b)))

  pub entered : (a : Attempt) (c′ : Cabinet M memory) → (IsLawful memory c → Ok (attempt_of a) ≡ attempted memory c taken row) → Enters memory c a c′ → Begins memory c taken row (Ok tt) c′
  unfolding Begins
  entered a c′ e n l =
      let b = an_attempt a (e l) in
      let task : c′.task ≡ next = n.task ∙ b.1 in
      let there : held memory c′ ≡ (goes_to h (attempt_of a)).left =
      λ i. record { program = source (n.rules i).now; memory = memory.seen (n.same i); stage = stage_of (n.state i); task = task i } in
      let left : held memory c′ ≡ (begun h taken row).left = there ∙ sym (ap (λ (o : Outcome (Unit {0})). o.left) b.0) in (
        record {
          memory_lawful = subst memory.lawful (sym n.same) l.memory_lawful;
          lawful = subst Lawful (sym left) (begin_keeps h taken row l.lawful (memory.limits c.memory l.memory_lawful));
        },
        (sym (ap (λ (o : Outcome (Unit {0})). answered h o.answer) b.0), left),
      )
