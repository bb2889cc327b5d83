-- A lawful cabinet stays lawful under every call, and a cabinet that is opened is lawful.
use Rattle.std.proofs.Common.{lit<, mod-lt, ◌≡◌, ℕ, ◌%◌, ◌<◌, Bool, true, false, cond, not, eqb, ltb, leb, List, length, get_or, Some, None, Ok, Err, Option, Result, sym, refl, ap, ◌∙◌, inl, inr, subst, arith, length-set}
use Rattle.std.proofs.lemmas.Bool.{cond-false, cond-true, eq-eqb, eqb-true, leb-true, not-false, lt-ltb, ltb-false, ltb-true, ne_eqb, or_cases, cases_lt, le-ltb}
use Rattle.std.proofs.lemmas.Option.{none-some}
use Rattle.memory.specs.declared.doubt.Doubt.{Doubt}
use Rattle.memory.specs.Value.{Kind, Limits, MayHold, MayHoldIn, NoMoreInDoubt, Value}
use Rattle.program.specs.declared.statement.Index.{Index}
use Rattle.program.specs.declared.statement.Next.{Next}
use Rattle.program.specs.Runs.{next_word}
use Rattle.program.specs.Sound.{Source, scope_of, sound}
use Rattle.plain.specs.Plain.{last_number}
use Rattle.layout.specs.declared.store.Store.{Store}
use Rattle.layout.specs.Chains.{HasChain, log_astray, next_known}
use Rattle.layout.specs.Places.{head_place, least_length, length_place, next_place}
use Rattle.layout.proofs.Chains.{not_astray}
use Rattle.calls.specs.declared.due.Due.{Due}
use Rattle.calls.specs.declared.refusal.Refusal.{Refusal}
use Rattle.calls.specs.declared.refusal.Why.{Why}
use Rattle.calls.specs.declared.answer.Woken.{Woken}
use Rattle.calls.specs.Calls.{Event, Relights, Took, begun, begun_still, woken}
use Rattle.calls.specs.Lawful.{Lawful, WellFormed}
use Rattle.calls.specs.Opening.{opened, unfit, unopened}
use Rattle.calls.specs.Running.{started}
use Rattle.calls.specs.Stages.{Held, Stage}
use Rattle.calls.specs.Steps.{Outcome, come_to, log_of, refused}
use Rattle.calls.specs.Words.{next_at, next_in, number_in}
use Rattle.calls.proofs.Fits.{start_fits}
use Rattle.calls.proofs.KeepsSteps.{in_state, step_keeps}
use Rattle.calls.proofs.KeepsStores.{Founded, founded, found_sure, lit_sure, sure_lawful, words_formed}

-- BEGIN

-- a known word that stands for a task is the number of one
pub task_known : (tasks w : ℕ) (t : Index 16) → next_known tasks w ≡ true → next_at w ≡ Next.Task t → t.number < tasks
unfolding next_at
task_known tasks w t known e =
    elim (cases_lt w 16) [
      | inl low ↦
          let task : next_at w ≡ Next.Task (record { number = w % 16; known = mod-lt w (lit< tt) }) = cond-true (ltb w 16) _ _ (lt-ltb w 16 low) in
          let number : t.number ≡ w % 16 = ap next_word (sym e ∙ task) in
          elim (or_cases (ltb w tasks) (eqb w 16) known) [
            | inl h ↦ let below = ltb-true w tasks h in omega arith
            | inr h ↦ let stop = eqb-true w 16 h in omega arith
          ]
      | inr high ↦
          let stop : next_at w ≡ Next.Stopped = cond-false (ltb w 16) _ _ (le-ltb w 16 high) in
          cc
    ]

-- refused for one of three reasons, or not
three_reasons : {A : Type 0} (P : Outcome A → Type 0) (h : Held) (b c d : Bool) (x y z : Why) (o : Outcome A) → ((why : Why) → P (refused h why)) → (c ≡ false → P o)
    → P (cond b (refused h x) (cond c (refused h y) (cond d (refused h z) o)))
three_reasons P h true c d x y z o held taken = held x
three_reasons P h false true d x y z o held taken = held y
three_reasons P h false false true x y z o held taken = held z
three_reasons P h false false false x y z o held taken = taken refl

-- begin, by what comes next
abbrev begun_at : Held → ℕ → List ℕ → Next → Outcome (Unit {0})
begun_at h taken row next = elim next [
  | Next.Stopped ↦ refused h Why.Stopped
  | Next.Task t ↦
      cond (not (eqb taken (number_in h.memory.words))) (refused h Why.NotTaken)
      (cond (not (eqb (length row) 8)) (refused h Why.RowLength)
      (cond (eqb (number_in h.memory.words) last_number) (refused h Why.LastNumber)
      (record { answer = Ok tt; left = come_to h h.memory (Stage.Running (started h.program t.number row h.memory.words)) })))
]

module _ (h : Held) (l : Lawful h) (lit : h.memory.lit ≡ true) (sure : h.memory.doubt ≡ None) (head : get_or h.memory.words head_place 0 ≡ 0) (taken : ℕ) (row : List ℕ) where
  begins_at : (next : Next) → next_in h.memory.words ≡ next → Lawful (begun_at h taken row next).left
  begins_at Next.Stopped e = l
  begins_at (Next.Task t) e =
      let formed = words_formed h l sure in
      three_reasons (λ o. Lawful o.left) h (not (eqb taken (number_in h.memory.words))) (not (eqb (length row) 8)) (eqb (number_in h.memory.words) last_number) _ _ _
      (record { answer = Ok tt; left = come_to h h.memory (Stage.Running (started h.program t.number row h.memory.words)) })
      (λ why. l)
      (λ c.
      let full : length row ≡ 8 = eqb-true (length row) 8 (not-false (eqb (length row) 8) c) in
      sure_lawful h.program h.memory (Stage.Running (started h.program t.number row h.memory.words)) _ (founded h l) sure formed
      (start_fits h.program t.number row h.memory.words l.program (task_known (length h.program.tasks) (get_or h.memory.words next_place 0) t formed.next e) full)
      (lit, head))

  begins : Lawful (begun_still h taken row).left
  begins = begins_at (next_in h.memory.words) refl

begin_in : (p : Source) (v : Value) (task : Next) (stage : Stage) (taken : ℕ) (row : List ℕ) → Lawful (in_state p v task stage) → Limits v → Lawful (begun (in_state p v task stage) taken row).left
begin_in p v task Stage.Settled taken row l limits = begins (in_state p v task Stage.Settled) l l.agrees.0 (lit_sure v limits l.agrees.0) l.agrees.1 taken row
begin_in p v task Stage.Rest taken row l limits = begins (in_state p v task Stage.Rest) l l.agrees.0 (lit_sure v limits l.agrees.0) l.agrees.1 taken row
begin_in p v task (Stage.Running a) taken row l limits = l
begin_in p v task (Stage.Logging es k) taken row l limits = l
begin_in p v task (Stage.Applying due) taken row l limits = l
begin_in p v task Stage.Dark taken row l limits = l

pub begin_keeps : (h : Held) (taken : ℕ) (row : List ℕ) → Lawful h → Limits h.memory → Lawful (begun h taken row).left
begin_keeps h taken row l limits = begin_in h.program h.memory h.task h.stage taken row l limits

-- RELIGHT

-- the words found are as many
pub found_long : (whole : Bool) (doubt : Option Doubt) (words found : List ℕ) → MayHoldIn whole doubt words found → length found ≡ length words
found_long whole None words found m = ap length m
found_long whole (Some d) words found m = ap length m.2 ∙ length-set words d.place m.0

-- at rest, or applying from the first entry on
module _ (p : Source) (v : Value) (task : Next) (f : Founded p v) (sure : v.doubt ≡ None) (lit : v.lit ≡ true) (formed : WellFormed p v.words) where
  rests : get_or v.words head_place 0 ≡ 0 → Lawful (in_state p v task Stage.Rest)
  rests still = sure_lawful p v Stage.Rest task f sure formed refl (lit, still)

  applies : (head : get_or v.words head_place 0 ≡ log_of p) (es : List Store) → HasChain (scope_of p) v.words es → Lawful (in_state p v task (Stage.Applying (Due.Entry (log_of p))))
  applies head es chain = sure_lawful p v (Stage.Applying (Due.Entry (log_of p))) task f sure formed refl (lit, head, es, chain, (0, chain.some, omega arith))

-- where a lit cabinet is, its head says
wakes : (h : Held) (v : Value) → Founded h.program v → v.doubt ≡ None → v.lit ≡ true → WellFormed h.program v.words → Lawful (woken h v).left
wakes h v f sure lit formed =
    elim formed.log [
      | inl still ↦ subst (λ (o : Outcome Woken). Lawful o.left) (sym (cond-true (eqb (get_or v.words head_place 0) 0) _ _ (eq-eqb _ 0 still))) (rests h.program v (next_in v.words) f sure lit formed still)
      | inr (head, es, chain) ↦
          subst (λ (o : Outcome Woken). Lawful o.left) (sym (cond-false (eqb (get_or v.words head_place 0) 0) _ _ (ne_eqb _ 0 (λ z. omega arith)))) (applies h.program v h.task f sure lit formed head es chain)
    ]

-- the memory that a relight leaves is of its kind, and as long
still_founded : (h : Held) (v : Value) → Lawful h → v.kind ≡ h.memory.kind → length v.words ≡ length h.memory.words → Founded h.program v
still_founded h v l kind long = record { program = l.program; whole = ap (λ (k : Kind). k.whole) kind ∙ l.whole; long = omega (arith, l.long) }

-- cut again, its words may be found as before
found_before : (v after : Value) → NoMoreInDoubt v after → after.kind ≡ v.kind → (found : List ℕ) → MayHold after found → MayHold v found
found_before v after (inl (sure, m)) kind found n = subst (MayHold v) (sym (found_sure after sure found n)) m
found_before v after (inr (doubt, words)) kind found n =
    subst (λ b. MayHoldIn b v.doubt v.words found) (ap (λ (k : Kind). k.whole) kind)
    (subst (λ (d : Option Doubt). MayHoldIn after.kind.whole d v.words found) doubt (subst (λ (ws : List ℕ). MayHoldIn after.kind.whole after.doubt ws found) words n))

long_before : (v after : Value) → NoMoreInDoubt v after → length after.words ≡ length v.words
long_before v after (inl (sure, m)) = found_long v.kind.whole v.doubt v.words after.words m
long_before v after (inr (doubt, words)) = ap length words

cut_again : (h : Held) (v : Value) (task : Next) → Lawful h → NoMoreInDoubt h.memory v → v.kind ≡ h.memory.kind → v.lit ≡ false → Lawful (in_state h.program v task Stage.Dark)
cut_again h v task l no_more kind dark =
    let f = still_founded h v l kind (long_before h.memory v no_more) in
    record {
      program = f.program;
      whole = f.whole;
      long = f.long;
      sound_words = λ found m. l.sound_words found (found_before h.memory v no_more kind found m);
      fits = refl;
      agrees = dark;
    }

pub relight_keeps : (h : Held) (charge : ℕ) (r : Result Woken Refusal) (h′ : Held) → Lawful h → Relights h charge r h′ → Lawful h′
relight_keeps h charge (Ok w) h′ l (relit, comes) =
    let v : Value = h′.memory in
    let long = found_long h.memory.kind.whole h.memory.doubt h.memory.words v.words relit.found in
    subst Lawful (sym comes.1) (wakes h v (still_founded h v l relit.kind long) relit.sure relit.lit (l.sound_words v.words relit.found))
relight_keeps h charge (Err e) h′ l (cut, again, tells, left) = subst Lawful (sym left) (cut_again h h′.memory h.task l again.no_more again.kind again.dark)

-- THE CALLS

pub took_keeps : (h : Held) (e : Event) (h′ : Held) → Lawful h → Limits h.memory → Took h e h′ → Lawful h′
took_keeps h (Event.Begin taken row r) h′ l limits took = subst Lawful (sym took.1) (begin_keeps h taken row l limits)
took_keeps h (Event.Step r) h′ l limits took = subst Lawful (sym took.1) (step_keeps h l limits)
took_keeps h (Event.Relight charge scrap r) h′ l limits took = relight_keeps h charge r h′ l took
took_keeps h (Event.Record buffer r holds) h′ l limits took = subst Lawful (sym took.0.1) l

-- OPEN

-- where no reason is given, no test gives one
no_reason : {A : Type 0} (b : Bool) (x : A) (o : Option A) → cond b (Some x) o ≡ None → (b ≡ false) × (o ≡ None)
no_reason true x o e = absurd (none-some x (sym e))
no_reason false x o e = (refl, e)

no_first : {A : Type 0} (o r : Option A) → elim o as (λ x. Option A) [ Some why ↦ Some why | None ↦ r ] ≡ None → (o ≡ None) × (r ≡ None)
no_first (Some x) r e = absurd (none-some x (sym e))
no_first None r e = (refl, e)

pub open_keeps : (p : Source) (v : Value) → sound p ≡ true → Limits v → unopened p v ≡ None → Lawful (opened p v)
open_keeps p v h limits e =
    let parts = no_first (unfit p v) _ e in
    let whole = no_reason (not v.kind.whole) _ _ parts.0 in
    let long = no_reason (ltb (length v.words) (least_length (length p.firsts))) _ _ whole.1 in
    let lit = no_reason (not v.lit) _ _ long.1 in
    let next = no_reason (not (next_known (length p.tasks) (get_or v.words next_place 0))) _ _ parts.1 in
    let few = no_reason (not (leb (get_or v.words length_place 0) 8)) _ _ next.1 in
    let log = no_reason (log_astray (scope_of p) v.words) _ _ few.1 in
    let is_lit : v.lit ≡ true = not-false v.lit lit.0 in
    let sure = lit_sure v limits is_lit in
    let f : Founded p v = record { program = h; whole = not-false v.kind.whole whole.0; long = ltb-false (length v.words) (least_length (length p.firsts)) long.0 } in
    let formed : WellFormed p v.words = record {
      next = not-false _ next.0;
      few = leb-true (get_or v.words length_place 0) 8 (not-false _ few.0);
      log = not_astray (scope_of p) v.words log.0;
    } in
    let then : ℕ → Stage = λ head. cond (eqb head 0) Stage.Rest (Stage.Applying (Due.Entry (log_of p))) in
    elim formed.log [
      | inl still ↦ subst (λ (stage : Stage). Lawful (in_state p v (next_in v.words) stage)) (sym (ap then still)) (rests p v (next_in v.words) f sure is_lit formed still)
      | inr (head, es, chain) ↦
          subst (λ (stage : Stage). Lawful (in_state p v (next_in v.words) stage)) (sym (cond-false (eqb (get_or v.words head_place 0) 0) _ _ (ne_eqb _ 0 (λ z. omega arith))))
          (applies p v (next_in v.words) f sure is_lit formed head es chain)
    ]
