-- The tables of begin and step, and the one store of a step.
use Rattle.std.proofs.Common.{lit<, mod-lt, ◌≡◌, ℕ, ◌%◌, ◌+◌, ◌<◌, ◌≤◌, Bool, true, false, cond, not, ◌&&◌, ◌⊎◌, eqb, ltb, leb, List, length, get_or, Some, None, Ok, Err, Option, sym, refl, ap, ◌∙◌, inl, inr, subst, arith}
use Rattle.std.specs.List.{list_all}
use Rattle.std.specs.Result.{IfErr}
use Rattle.std.proofs.lemmas.Bool.{and_parts, cases_Bool, cases_lt, cond-false, cond-true, le-ltb, leb-true, lt-ltb, ltb-true, ne_eqb, or_cases}
use Rattle.std.proofs.lemmas.Result.{IfErr-at_err}
use Rattle.memory.specs.declared.fault.Fault.TheVariants as fault
use Rattle.memory.specs.Value.{Limits, Value, cut_at, cut_short, stored, write_answer, written}
use Rattle.program.specs.declared.check.Scope.{Scope}
use Rattle.program.specs.declared.statement.Index.{Index}
use Rattle.program.specs.declared.statement.Next.{Next}
use Rattle.program.specs.declared.statement.Statement.{Statement}
use Rattle.program.specs.Runs.{Run, after}
use Rattle.program.specs.Shapes.{ending, operands, targets}
use Rattle.program.specs.Sound.{Source, counts_sound, operand_declared, scope_of, sound, target_declared, total}
use Rattle.plain.specs.Plain.{last_number}
use Rattle.layout.specs.declared.store.Store.{Store}
use Rattle.layout.specs.Chains.{HasChain, chain_sound, chain_words, entry_at, entry_sound, next_known}
use Rattle.layout.specs.Places.{head_place, least_length, next_place}
use Rattle.layout.proofs.Chains.{chain_few, entry_fits, entry_parts, entry_stands, length_chain_words}
use Rattle.calls.specs.declared.answer.Progress.{Progress}
use Rattle.calls.specs.declared.due.Due.{Due}
use Rattle.calls.specs.declared.refusal.Why.{Why}
use Rattle.calls.specs.Calls.{begun, begun_still}
use Rattle.calls.specs.Lawful.{DueIn, Lawful, attempt_fits}
use Rattle.calls.specs.Running.{coming, direct, logs, started, view}
use Rattle.calls.specs.Stages.{Attempt, Held, Stage}
use Rattle.calls.specs.StepLaws.{BeginRefusals, BeginStoresNothing, StepRefusals, StepRefused, StepStoresOnce, begin_refusal, is_under_way, number_told}
use Rattle.calls.specs.Steps.{Outcome, Turn, applying_turn, begins_commit, come_to, ends_commit, goes_on, log_of, logging_turn, moved, refused, running_turn, settles, stepped, through, turned}
use Rattle.calls.specs.Words.{next_at, next_in, number_in}
use Rattle.calls.proofs.Fits.{statement_declared}
use Rattle.calls.proofs.KeepsSteps.{direct_cases, in_state}
use Rattle.calls.proofs.KeepsStores.{lit_sure, words_formed}

-- A STEP'S STORE

-- the memory that is left is that of h, or that with one store
abbrev Stored : Held → Outcome Progress → Type 0
Stored h o = (o.left.memory ≡ h.memory) ⊎ ((s : Store) × (o.left.memory ≡ written h.memory s.place s.word))

through_stores : (h : Held) (store : Option Store) (done : Value → Outcome Progress) → ((v : Value) → (done v).left.memory ≡ v) → Stored h (through h store done)
through_stores h None done same = inl (same h.memory)
through_stores h (Some s) done same =
    elim (write_answer h.memory s.place) as (λ r. Stored h (elim r as (λ r. Outcome Progress) [
      | Ok _ ↦ done (written h.memory s.place s.word)
      | Err (fault.Cut c) ↦ record { answer = Err (Why.Memory (fault.Cut c)); left = moved h (written h.memory s.place s.word) Stage.Dark }
      | Err fault.Dark ↦ refused h (Why.Memory fault.Dark)
      | Err fault.Outside ↦ refused h (Why.Memory fault.Outside)
    ])) [
      | Ok _ ↦ inr (s, same (written h.memory s.place s.word))
      | Err (fault.Cut c) ↦ inr (s, refl)
      | Err fault.Dark ↦ inl refl
      | Err fault.Outside ↦ inl refl
    ]

turn_stores : (h : Held) (t : Turn) → Stored h (turned h t)
turn_stores h t = through_stores h t.store (goes_on h t.then) (λ v. refl)

stage_stores : (p : Source) (v : Value) (task : Next) (stage : Stage) → Stored (in_state p v task stage) (stepped (in_state p v task stage))
stage_stores p v task Stage.Settled = inl refl
stage_stores p v task Stage.Rest = inl refl
stage_stores p v task (Stage.Running a) = turn_stores (in_state p v task (Stage.Running a)) (running_turn p a v.words)
stage_stores p v task (Stage.Logging es k) = turn_stores (in_state p v task (Stage.Logging es k)) (logging_turn p es k)
stage_stores p v task (Stage.Applying (Due.Entry e)) = turn_stores (in_state p v task (Stage.Applying (Due.Entry e))) (applying_turn e v.words)
stage_stores p v task (Stage.Applying Due.Head) = let h : Held = in_state p v task (Stage.Applying Due.Head) in through_stores h (Some ends_commit) (settles h) (λ v. refl)
stage_stores p v task Stage.Dark = inl refl

pub step_stores_once : StepStoresOnce
step_stores_once h = stage_stores h.program h.memory h.task h.stage

-- WHERE IT STANDS

-- the store that is due, if any, stands inside the memory
abbrev Inside : List ℕ → Option Store → Type 0
Inside ws store = (store ≡ None) ⊎ ((s : Store) × (s.place < length ws) × (store ≡ Some s))

module _ (p : Source) (ws : List ℕ) (long : least_length (length p.firsts) ≤ length ws) where
  running_inside : (a : Attempt) → sound p ≡ true → attempt_fits p a ≡ true → Inside ws (running_turn p a ws).store
  running_inside a h fits =
      let s : Statement = coming p a in
      let τ : Run = after s (view p a ws) in
      let names = statement_declared p a h fits in
      let sets = (and_parts (list_all (target_declared (scope_of p)) (targets s)) _ (and_parts (list_all (operand_declared (scope_of p)) (operands s)) _ names).1).0 in
      elim (cases_Bool (ending s)) [
        | inl e ↦ inl (ap (λ (t : Turn). t.store) (cond-true (ending s) _ _ e))
        | inr e ↦
            let stores : (running_turn p a ws).store ≡ direct (logs p a.task) (targets s) τ = ap (λ (t : Turn). t.store) (cond-false (ending s) _ _ e) in
            elim (direct_cases (scope_of p) (logs p a.task) (targets s) τ sets) [
              | inl none ↦ inl (stores ∙ none)
              | inr (q, high, low, made) ↦ inr (q, omega arith, stores ∙ made)
            ]
      ]

  logging_inside : (es : List Store) (k : ℕ) → chain_sound (scope_of p) head_place es ≡ true → Inside ws (logging_turn p es k).store
  logging_inside es k h =
      let words : List ℕ = chain_words (log_of p) es in
      let few = chain_few (scope_of p) head_place es (omega arith) h in
      elim (cases_lt k (length words)) [
        | inl more ↦
            inr (record { place = log_of p + k; word = get_or words k 0 }, omega (arith, length_chain_words (log_of p) es), ap (λ (t : Turn). t.store) (cond-true (ltb k (length words)) _ _ (lt-ltb k (length words) more)))
        | inr all ↦ inr (begins_commit p, omega arith, ap (λ (t : Turn). t.store) (cond-false (ltb k (length words)) _ _ (le-ltb k (length words) all)))
      ]

  applying_inside : (e : ℕ) (es : List Store) → HasChain (scope_of p) ws es → DueIn p es (Due.Entry e) → (entry_at ws e).place < length ws
  applying_inside e es chain (i, in_es, at) =
      let n : Scope = scope_of p in
      let is : entry_at ws e ≡ get_or es i (record { place = 0; word = 0 }) = ap (entry_at ws) at ∙ entry_stands (log_of p) es ws chain.stands i in_es in
      let fits = entry_parts n head_place (entry_at ws e) (ap (entry_sound n head_place) is ∙ entry_fits n head_place es i chain.sound in_es) in
      let low : (entry_at ws e).place < log_of p = fits.1 in
      omega arith

-- A STEP'S REFUSALS

-- refused only as the table says
abbrev Table : Held → Outcome Progress → Type 0
Table h o = IfErr o.answer (λ why. StepRefused h why o.left)

module _ (h : Held) (going : is_under_way h.stage ≡ true) (lit : h.memory.lit ≡ true) where
  module _ (s : Store) (done : Value → Outcome Progress) (inside : s.place < length h.memory.words) where
    is_cut : h.memory.charge < h.memory.kind.price
        → through h (Some s) done ≡ record { answer = Err (Why.Memory (fault.Cut (cut_at h.memory.kind h.memory.charge s.place))); left = moved h (cut_short h.memory s.place s.word) Stage.Dark }
    is_cut low =
        let is_inside = lt-ltb s.place (length h.memory.words) inside in
        let is_low = lt-ltb h.memory.charge h.memory.kind.price low in
        rw (lit, through, is_inside, is_low) (rw (lit, is_inside, is_low) refl)

    is_made : h.memory.kind.price ≤ h.memory.charge → through h (Some s) done ≡ done (stored h.memory s.place s.word)
    is_made paid =
        let is_inside = lt-ltb s.place (length h.memory.words) inside in
        let is_paid = le-ltb h.memory.charge h.memory.kind.price paid in
        rw (lit, through, is_inside, is_paid) (rw (lit, is_inside, is_paid) refl)

    through_told : ((v : Value) → Table h (done v)) → Table h (through h (Some s) done)
    through_told answers =
        elim (cases_lt h.memory.charge h.memory.kind.price) [
          | inl low ↦ subst (Table h) (sym (is_cut low)) (record { under_way = going; low = low; store = s; inside = inside; carries = refl; leaves = refl })
          | inr paid ↦ subst (Table h) (sym (is_made paid)) (answers (stored h.memory s.place s.word))
        ]

  turn_told : (t : Turn) → Inside h.memory.words t.store → Table h (turned h t)
  turn_told t (inl none) = subst (λ (store : Option Store). Table h (through h store (goes_on h t.then))) (sym none) tt
  turn_told t (inr (s, inside, some)) = subst (λ (store : Option Store). Table h (through h store (goes_on h t.then))) (sym some) (through_told s (goes_on h t.then) inside (λ v. tt))

stage_told : (p : Source) (v : Value) (task : Next) (stage : Stage) → Lawful (in_state p v task stage) → Table (in_state p v task stage) (stepped (in_state p v task stage))
stage_told p v task Stage.Settled l = (refl, refl)
stage_told p v task Stage.Rest l = (refl, refl)
stage_told p v task (Stage.Running a) l = turn_told (in_state p v task (Stage.Running a)) refl l.agrees.0 (running_turn p a v.words) (running_inside p v.words l.long a l.program l.fits)
stage_told p v task (Stage.Logging es k) l =
    let tests = (and_parts (ltb 0 (length es) && chain_sound (scope_of p) head_place es) (leb k (length (chain_words (log_of p) es))) l.fits).0 in
    let chain = (and_parts (ltb 0 (length es)) (chain_sound (scope_of p) head_place es) tests).1 in
    turn_told (in_state p v task (Stage.Logging es k)) refl l.agrees.0 (logging_turn p es k) (logging_inside p v.words l.long es k chain)
stage_told p v task (Stage.Applying (Due.Entry e)) l =
    turn_told (in_state p v task (Stage.Applying (Due.Entry e))) refl l.agrees.0 (applying_turn e v.words)
    (inr (entry_at v.words e, applying_inside p v.words l.long e l.agrees.2 l.agrees.3 l.agrees.4, refl))
stage_told p v task (Stage.Applying Due.Head) l =
    let h : Held = in_state p v task (Stage.Applying Due.Head) in
    let inside : head_place < length v.words = omega (arith, l.long) in
    through_told h refl l.agrees.0 ends_commit (settles h) inside (λ v. tt)
stage_told p v task Stage.Dark l = (refl, refl)

pub step_refusals : StepRefusals
step_refusals h l why e = IfErr-at_err (λ why. StepRefused h why (stepped h).left) e (stage_told h.program h.memory h.task h.stage l)

-- BEGIN

few_tasks : (p : Source) → sound p ≡ true → length p.tasks ≤ 16
few_tasks p h =
    let counts = (and_parts (counts_sound p) _ h).0 in
    let tasks = (and_parts (leb (length p.firsts) 48 && leb p.locals 8) _ counts).1 in
    leb-true (length p.tasks) 16 (and_parts (ltb 0 (length p.tasks)) (leb (length p.tasks) 16) (and_parts _ (leb (total p.tasks) 256) tasks).0).1

-- a known word is a task's, or it is 16 and a stop
next_cases : (tasks w : ℕ) → tasks ≤ 16 → next_known tasks w ≡ true
    → ((t : Index 16) × (next_at w ≡ Next.Task t) × (eqb w 16 ≡ false)) ⊎ ((next_at w ≡ Next.Stopped) × (eqb w 16 ≡ true))
unfolding next_at
next_cases tasks w few known =
    elim (cases_lt w 16) [
      | inl low ↦ inl (record { number = w % 16; known = mod-lt w (lit< tt) }, cond-true (ltb w 16) _ _ (lt-ltb w 16 low), ne_eqb w 16 (λ e. omega arith))
      | inr high ↦
          inr (
            cond-false (ltb w 16) _ _ (le-ltb w 16 high),
            elim (or_cases (ltb w tasks) (eqb w 16) known) [
              | inl below ↦ let l = ltb-true w tasks below in absurd (omega arith)
              | inr stop ↦ stop
            ],
          )
    ]

-- refused for one of three reasons, or not
three_told : (h : Held) (b c d : Bool) (o : Outcome (Unit {0})) → number_told o.answer ≡ None
    → number_told (cond b (refused h Why.NotTaken) (cond c (refused h Why.RowLength) (cond d (refused h Why.LastNumber) o))).answer ≡ cond b (Some 32) (cond c (Some 33) (cond d (Some 34) None))
three_told h true c d o accepted = refl
three_told h false true d o accepted = refl
three_told h false false true o accepted = refl
three_told h false false false o accepted = accepted

still_told : (h : Held) (taken : ℕ) (row : List ℕ) → length h.program.tasks ≤ 16 → next_known (length h.program.tasks) (get_or h.memory.words next_place 0) ≡ true
    → number_told (begun_still h taken row).answer
    ≡ cond (eqb (get_or h.memory.words next_place 0) 16) (Some 31)
    (cond (not (eqb taken (number_in h.memory.words))) (Some 32) (cond (not (eqb (length row) 8)) (Some 33) (cond (eqb (number_in h.memory.words) 4294967295) (Some 34) None)))
still_told h taken row few known =
    elim (next_cases (length h.program.tasks) (get_or h.memory.words next_place 0) few known) [
      | inl (t, task, other) ↦ rw (task, begun_still, other) (three_told h _ _ _ _ refl)
      | inr (stopped, stop) ↦ rw (stopped, begun_still, stop) refl
    ]

begun_told : (p : Source) (v : Value) (task : Next) (stage : Stage) (taken : ℕ) (row : List ℕ) → Lawful (in_state p v task stage) → Limits v
    → number_told (begun (in_state p v task stage) taken row).answer ≡ begin_refusal (in_state p v task stage) taken row
begun_told p v task Stage.Settled taken row l limits =
    let h : Held = in_state p v task Stage.Settled in still_told h taken row (few_tasks p l.program) (words_formed h l (lit_sure v limits l.agrees.0)).next
begun_told p v task Stage.Rest taken row l limits =
    let h : Held = in_state p v task Stage.Rest in still_told h taken row (few_tasks p l.program) (words_formed h l (lit_sure v limits l.agrees.0)).next
begun_told p v task (Stage.Running a) taken row l limits = refl
begun_told p v task (Stage.Logging es k) taken row l limits = refl
begun_told p v task (Stage.Applying due) taken row l limits = refl
begun_told p v task Stage.Dark taken row l limits = refl

pub begin_refusals : BeginRefusals
begin_refusals h l limits taken row = begun_told h.program h.memory h.task h.stage taken row l limits

-- WHAT BEGIN LEAVES

-- the memory, and where it is refused all
abbrev Keeps : Held → Outcome (Unit {0}) → Type 0
Keeps h o = (o.left.memory ≡ h.memory) × IfErr o.answer (λ why. o.left ≡ h)

three_keep : (h : Held) (b c d : Bool) (o : Outcome (Unit {0})) → Keeps h o → Keeps h (cond b (refused h Why.NotTaken) (cond c (refused h Why.RowLength) (cond d (refused h Why.LastNumber) o)))
three_keep h true c d o kept = (refl, refl)
three_keep h false true d o kept = (refl, refl)
three_keep h false false true o kept = (refl, refl)
three_keep h false false false o kept = kept

next_split : (next : Next) → ((t : Index 16) × (next ≡ Next.Task t)) ⊎ (next ≡ Next.Stopped)
next_split (Next.Task t) = inl (t, refl)
next_split Next.Stopped = inr refl

still_keeps : (h : Held) (taken : ℕ) (row : List ℕ) → Keeps h (begun_still h taken row)
still_keeps h taken row =
    elim (next_split (next_in h.memory.words)) [
      | inl (t, task) ↦
          rw (task, begun_still) (three_keep h (not (eqb taken (number_in h.memory.words))) (not (eqb (length row) 8)) (eqb (number_in h.memory.words) last_number)
          (record { answer = Ok tt; left = come_to h h.memory (Stage.Running (started h.program t.number row h.memory.words)) }) (refl, tt))
      | inr stopped ↦ rw (stopped, begun_still) (refl, refl)
    ]

begun_keeps : (p : Source) (v : Value) (task : Next) (stage : Stage) (taken : ℕ) (row : List ℕ) → Keeps (in_state p v task stage) (begun (in_state p v task stage) taken row)
begun_keeps p v task Stage.Settled taken row = still_keeps (in_state p v task Stage.Settled) taken row
begun_keeps p v task Stage.Rest taken row = still_keeps (in_state p v task Stage.Rest) taken row
begun_keeps p v task (Stage.Running a) taken row = (refl, refl)
begun_keeps p v task (Stage.Logging es k) taken row = (refl, refl)
begun_keeps p v task (Stage.Applying due) taken row = (refl, refl)
begun_keeps p v task Stage.Dark taken row = (refl, refl)

pub begin_stores_nothing : BeginStoresNothing
begin_stores_nothing h taken row =
    let kept = begun_keeps h.program h.memory h.task h.stage taken row in (kept.0, λ why e. IfErr-at_err (λ why. (begun h taken row).left ≡ h) e kept.1)
