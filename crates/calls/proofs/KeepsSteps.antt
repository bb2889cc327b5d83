-- A step of a lawful cabinet leaves it lawful.
use Rattle.std.proofs.Common.{◌≡◌, ℕ, suc, ◌+◌, ◌*◌, ◌<◌, ◌≤◌, Bool, true, false, cond, ◌&&◌, ◌⊎◌, eqb, ltb, leb, List, [], ◌∷◌, length, get_or, set, Some, None, sym, refl, ap, ◌∙◌, inl, inr, subst, arith}
use Rattle.std.specs.List.{list_all}
use Rattle.std.proofs.lemmas.Bool.{and_from, and_parts, cases_Bool, cases_eq, cases_lt, cond-false, cond-true, eq-eqb, le-leb, le-ltb, leb-true, lt-ltb, ltb-true, ne_eqb}
use Rattle.std.proofs.lemmas.List.{get_or-set_other, get_or-set_same, length-set}
use Rattle.memory.specs.Value.{Limits, Value, stored}
use Rattle.program.specs.declared.check.Scope.{Scope}
use Rattle.program.specs.declared.statement.Next.{Next}
use Rattle.program.specs.declared.statement.Statement.{Statement}
use Rattle.program.specs.declared.statement.Target.{Target}
use Rattle.program.specs.Paths.{◌∈◌}
use Rattle.program.specs.Runs.{Run, after, holds, passes}
use Rattle.program.specs.Shapes.{ending, operands, targets, ways}
use Rattle.program.specs.Sound.{Source, operand_declared, scope_of, target_declared}
use Rattle.laws.proofs.Kept.{emitted_after}
use Rattle.laws.proofs.Views.{length-overlay}
use Rattle.layout.specs.declared.store.Store.{Store}
use Rattle.layout.specs.Chains.{HasChain, StandFrom, chain_sound, chain_words, entry_at, entry_sound}
use Rattle.layout.specs.Places.{head_place, log_place, variable_place}
use Rattle.layout.proofs.Chains.{chain_few, entry_fits, entry_parts, entry_stands, length_chain_words, next_stands}
use Rattle.calls.specs.declared.due.Due.{Due}
use Rattle.calls.specs.Lawful.{DueIn, Lawful, MemoryFits, WellFormed, attempt_fits, stage_fits}
use Rattle.calls.specs.Running.{GoesOn, coming, direct, entries, logs, view, went_on}
use Rattle.calls.specs.Stages.{Attempt, Held, Stage}
use Rattle.calls.specs.Words.{number_in}
use Rattle.calls.specs.Steps.{Turn, applying_turn, begins_commit, ends_commit, goes_on, log_of, logging_turn, running_turn, settles, stepped, through, turn, turned}
use Rattle.calls.proofs.Entries.{entries_fit}
use Rattle.calls.proofs.Fits.{attempt_goes_on, ending_known, statement_declared}
use Rattle.calls.proofs.KeepsStores.{Founded, founded, lit_sure, sure_lawful, through_keeps, words_formed}
use Rattle.calls.proofs.KeepsWords.{chain_still, fits_apart, stands_more, stands_still, well_formed_set}

-- A step without a store, and one with a store

-- what the state behind a turn owes
record Turns (p : Source) (v : Value) (stage : Stage) : Type 0 where
  pub fits : stage_fits p stage ≡ true
  pub agrees : MemoryFits p v stage

-- a memory with a store made is as long as before, and of its kind
stored_founded : (p : Source) (v : Value) (q w : ℕ) → Founded p v → Founded p (stored v q w)
stored_founded p v q w f = record { program = f.program; whole = f.whole; long = omega (arith, f.long, length-set v.words q w) }

module _ (h : Held) (l : Lawful h) (lit : h.memory.lit ≡ true) (sure : h.memory.doubt ≡ None) where
  no_store : (then : Stage) → Turns h.program h.memory then → Lawful (turned h (turn None then)).left
  no_store then t = sure_lawful h.program h.memory then h.task (founded h l) sure (words_formed h l sure) t.fits t.agrees

  one_store : (s : Store) (then : Stage)
      → WellFormed h.program (set h.memory.words s.place s.word) → Turns h.program (stored h.memory s.place s.word) then → Lawful (turned h (turn (Some s) then)).left
  one_store s then formed t =
      through_keeps h s (goes_on h then) l lit sure formed
      (sure_lawful h.program (stored h.memory s.place s.word) then h.task (stored_founded h.program h.memory s.place s.word (founded h l)) refl formed t.fits t.agrees)

same_turn : (h : Held) (t u : Turn) → t ≡ u → Lawful (turned h u).left → Lawful (turned h t).left
same_turn h t u e l = subst (λ (x : Turn). Lawful (turned h x).left) (sym e) l

-- Running on

-- what a statement does, whatever it reads
record Does (s : Statement) (σ : Run) : Type 0 where
  way : passes s σ ∈ ways s
  locals : length (after s σ).locals ≡ length σ.locals

does : (s : Statement) (σ : Run) → Does s σ
does Statement.Stop σ = record { way = inl refl; locals = refl }
does (Statement.Set (Target.Variable v) a o b) σ = record { way = inl refl; locals = refl }
does (Statement.Set (Target.Local l) a o b) σ = record { way = inl refl; locals = length-set σ.locals l.number _ }
does (Statement.Emit a) σ = record { way = inl refl; locals = refl }
does (Statement.Skip k t) σ = record {
  way = elim (holds σ t) as (λ b. cond b k.count 0 ∈ (0 ∷ k.count ∷ [])) [ true ↦ inr (inl refl) | false ↦ inl refl ];
  locals = refl;
}
does (Statement.Next t) σ = record { way = inl refl; locals = refl }
does (Statement.Choose c t u) σ = record { way = inl refl; locals = refl }

-- a statement that is no ending takes its attempt on
pub went_goes_on : (p : Source) (a : Attempt) (ws : List ℕ) → GoesOn p a (went_on (logs p a.task) (coming p a) (view p a ws) (after (coming p a) (view p a ws)) a)
went_goes_on p a ws =
    let s : Statement = coming p a in
    let σ : Run = view p a ws in
    let d = does s σ in
    record {
      task = refl;
      over = passes s σ;
      way = d.way;
      at = refl;
      inputs = refl;
      locals = d.locals;
      emitted = emitted_after s σ;
      copies = length-overlay (logs p a.task) (after s σ).variables a.copies;
      set = refl;
    }

-- the store that a statement makes is to a variable of the program
pub direct_cases : (scope : Scope) (logged : ℕ → Bool) (ts : List Target) (τ : Run) → list_all (target_declared scope) ts ≡ true
    → (direct logged ts τ ≡ None) ⊎ ((s : Store) × (variable_place 0 ≤ s.place) × (s.place < log_place scope.variables) × (direct logged ts τ ≡ Some s))
direct_cases scope logged [] τ h = inl refl
direct_cases scope logged (Target.Local l ∷ more) τ h = inl refl
direct_cases scope logged (Target.Variable v ∷ more) τ h =
    let known = ltb-true v.number scope.variables (and_parts (ltb v.number scope.variables) _ h).0 in
    elim (cases_Bool (logged v.number)) [
      | inl e ↦ inl (cond-true (logged v.number) _ _ e)
      | inr e ↦ inr (record { place = variable_place v.number; word = get_or τ.variables v.number 0 }, omega arith, omega arith, cond-false (logged v.number) _ _ e)
    ]

-- a store behind the record, with no commit under way
module _ (p : Source) (v : Value) (q w : ℕ) (inside : q < length v.words) (high : variable_place 0 ≤ q) (head : get_or v.words head_place 0 ≡ 0) where
  head_still : get_or (set v.words q w) head_place 0 ≡ 0
  head_still = get_or-set_other v.words q head_place w 0 (λ e. omega arith) ∙ head

  formed_still : WellFormed p v.words → WellFormed p (set v.words q w)
  formed_still f = well_formed_set v.words q w inside p (fits_apart (scope_of p) q w (λ e. omega arith) (λ e. omega arith)) f (inl head_still)

-- behind entry i of a chain, the one or the head is due that its next says
next_due : (p : Source) (es : List Store) (i x : ℕ) → i < length es → x ≡ cond (eqb (suc i) (length es)) 0 (log_of p + 3 * suc i) → DueIn p es (cond (eqb x 0) Due.Head (Due.Entry x))
next_due p es i x l e =
    elim (cases_eq (suc i) (length es)) [
      | inl last ↦
          let none : x ≡ 0 = e ∙ cond-true (eqb (suc i) (length es)) _ _ (eq-eqb (suc i) (length es) last) in
          subst (DueIn p es) (sym (cond-true (eqb x 0) Due.Head (Due.Entry x) (eq-eqb x 0 none))) tt
      | inr more ↦
          let next : x ≡ log_of p + 3 * suc i = e ∙ cond-false (eqb (suc i) (length es)) _ _ (ne_eqb (suc i) (length es) more) in
          subst (DueIn p es) (sym (cond-false (eqb x 0) Due.Head (Due.Entry x) (ne_eqb x 0 (λ z. omega arith)))) (suc i, omega arith, next)
    ]

-- In each state

-- a cabinet in a state
abbrev pub in_state : Source → Value → Next → Stage → Held
in_state p v task stage = record { program = p; memory = v; stage = stage; task = task }

module _ (p : Source) (v : Value) (task : Next) (sure : v.doubt ≡ None) where
  -- RUNNING
  module _ (a : Attempt) (l : Lawful (in_state p v task (Stage.Running a))) where
    running_ends : ending (coming p a) ≡ true → Lawful (turned (in_state p v task (Stage.Running a)) (running_turn p a v.words)).left
    running_ends e =
        let h : Held = in_state p v task (Stage.Running a) in
        let chosen : Next = (after (coming p a) (view p a v.words)).chosen in
        same_turn h (running_turn p a v.words) (turn None (Stage.Logging (entries (number_in v.words) chosen a) 0)) (cond-true (ending (coming p a)) _ _ e)
        (no_store h l l.agrees.0 sure (Stage.Logging (entries (number_in v.words) chosen a) 0)
        (record {
          fits = entries_fit p a (number_in v.words) chosen l.program l.fits (ending_known p a l.program l.fits e (view p a v.words));
          agrees = (l.agrees.0, l.agrees.1, λ j k. absurd (omega arith));
        }))

    running_goes : ending (coming p a) ≡ false → Lawful (turned (in_state p v task (Stage.Running a)) (running_turn p a v.words)).left
    running_goes e =
        let h : Held = in_state p v task (Stage.Running a) in
        let s : Statement = coming p a in
        let τ : Run = after s (view p a v.words) in
        let logged : ℕ → Bool = logs p a.task in
        let b : Attempt = went_on logged s (view p a v.words) τ a in
        let fits : attempt_fits p b ≡ true = attempt_goes_on p a b l.program l.fits e (went_goes_on p a v.words) in
        let names = statement_declared p a l.program l.fits in
        let sets = (and_parts (list_all (target_declared (scope_of p)) (targets s)) _ (and_parts (list_all (operand_declared (scope_of p)) (operands s)) _ names).1).0 in
        same_turn h (running_turn p a v.words) (turn (direct logged (targets s) τ) (Stage.Running b)) (cond-false (ending (coming p a)) _ _ e)
        (elim (direct_cases (scope_of p) logged (targets s) τ sets) [
          | inl none ↦
              same_turn h (turn (direct logged (targets s) τ) (Stage.Running b)) (turn None (Stage.Running b)) (ap (λ o. turn o (Stage.Running b)) none)
              (no_store h l l.agrees.0 sure (Stage.Running b) (record { fits = fits; agrees = l.agrees }))
          | inr (q, high, low, made) ↦
              same_turn h (turn (direct logged (targets s) τ) (Stage.Running b)) (turn (Some q) (Stage.Running b)) (ap (λ o. turn o (Stage.Running b)) made)
              let inside : q.place < length v.words = omega (arith, l.long) in
              (one_store h l l.agrees.0 sure q (Stage.Running b)
              (formed_still p v q.place q.word inside high l.agrees.1 (words_formed h l sure))
              (record { fits = fits; agrees = (refl, head_still p v q.place q.word inside high l.agrees.1) }))
        ])

  -- LOGGING
  module _ (es : List Store) (k : ℕ) (l : Lawful (in_state p v task (Stage.Logging es k))) where
    abbrev words : List ℕ
    words = chain_words (log_of p) es

    -- what is tested of the entries
    tests : (0 < length es) × (chain_sound (scope_of p) head_place es ≡ true) × (k ≤ length words)
    tests =
        let parts = and_parts (ltb 0 (length es) && chain_sound (scope_of p) head_place es) (leb k (length words)) l.fits in
        let chain = and_parts (ltb 0 (length es)) (chain_sound (scope_of p) head_place es) parts.0 in
        (ltb-true 0 (length es) chain.0, chain.1, leb-true k (length words) parts.1)

    logs_a_word : k < length words → Lawful (turned (in_state p v task (Stage.Logging es k)) (logging_turn p es k)).left
    logs_a_word more =
        let h : Held = in_state p v task (Stage.Logging es k) in
        let q : Store = record { place = log_of p + k; word = get_or words k 0 } in
        let few = chain_few (scope_of p) head_place es (omega arith) tests.1 in
        let inside : q.place < length v.words = omega (arith, l.long, length_chain_words (log_of p) es) in
        let high : variable_place 0 ≤ q.place = omega arith in
        same_turn h (logging_turn p es k) (turn (Some q) (Stage.Logging es (k + 1))) (cond-true (ltb k (length words)) _ _ (lt-ltb k (length words) more))
        (one_store h l l.agrees.0 sure q (Stage.Logging es (k + 1))
        (formed_still p v q.place q.word inside high l.agrees.1 (words_formed h l sure))
        (record {
          fits = and_from _ _ (and_from _ _ (lt-ltb 0 (length es) tests.0) tests.1) (le-leb (k + 1) (length words) (omega arith));
          agrees = (refl, head_still p v q.place q.word inside high l.agrees.1, stands_more v.words (log_of p) k words inside l.agrees.2);
        }))

    -- with all words logged, the head is stored
    commits : length words ≤ k → Lawful (turned (in_state p v task (Stage.Logging es k)) (logging_turn p es k)).left
    commits all =
        let h : Held = in_state p v task (Stage.Logging es k) in
        let q : Store = begins_commit p in
        let inside : q.place < length v.words = omega (arith, l.long) in
        let before : StandFrom v.words (log_of p) words (length words) = λ j m. l.agrees.2 j (omega arith) in
        let head : get_or (set v.words q.place q.word) head_place 0 ≡ log_of p = get_or-set_same v.words head_place (log_of p) 0 inside in
        let chain : HasChain (scope_of p) (set v.words q.place q.word) es = record { some = tests.0; sound = tests.1; stands = stands_still v.words q.place q.word inside (log_of p) (length words) words (inl (omega arith)) before } in
        same_turn h (logging_turn p es k) (turn (Some q) (Stage.Applying (Due.Entry (log_of p)))) (cond-false (ltb k (length words)) _ _ (le-ltb k (length words) all))
        (one_store h l l.agrees.0 sure q (Stage.Applying (Due.Entry (log_of p)))
        (well_formed_set v.words q.place q.word inside p (fits_apart (scope_of p) q.place q.word (λ e. omega arith) (λ e. omega arith)) (words_formed h l sure) (inr (head, es, chain)))
        (record { fits = refl; agrees = (refl, head, es, chain, (0, tests.0, omega arith)) }))

    logging_keeps : Lawful (turned (in_state p v task (Stage.Logging es k)) (logging_turn p es k)).left
    logging_keeps = elim (cases_lt k (length words)) [ inl more ↦ logs_a_word more | inr all ↦ commits all ]

  -- APPLYING
  module _ (e : ℕ) (l : Lawful (in_state p v task (Stage.Applying (Due.Entry e)))) where
    abbrev ws : List ℕ
    ws = v.words

    abbrev n : Scope
    n = scope_of p

    applying_keeps : Lawful (turned (in_state p v task (Stage.Applying (Due.Entry e))) (applying_turn e ws)).left
    applying_keeps =
        let h : Held = in_state p v task (Stage.Applying (Due.Entry e)) in
        let es : List Store = l.agrees.2 in
        let chain : HasChain n ws es = l.agrees.3 in
        let i : ℕ = l.agrees.4.0 in
        let in_es : i < length es = l.agrees.4.1 in
        let at : e ≡ log_of p + 3 * i = l.agrees.4.2 in
        let q : Store = entry_at ws e in
        let stands : entry_at ws (log_of p + 3 * i) ≡ get_or es i (record { place = 0; word = 0 }) = entry_stands (log_of p) es ws chain.stands i in_es in
        let is : q ≡ get_or es i (record { place = 0; word = 0 }) = ap (entry_at ws) at ∙ stands in
        let fits = entry_parts n head_place q (ap (entry_sound n head_place) is ∙ entry_fits n head_place es i chain.sound in_es) in
        let low : q.place < log_of p = fits.1 in
        let apart : 0 < q.place = fits.0 in
        let inside : q.place < length ws = omega (arith, l.long) in
        let head : get_or (set ws q.place q.word) head_place 0 ≡ log_of p = get_or-set_other ws q.place head_place q.word 0 (λ z. omega arith) ∙ l.agrees.1 in
        let still : HasChain n (set ws q.place q.word) es = chain_still ws q.place q.word inside n es low chain in
        let then : Stage = Stage.Applying (cond (eqb (get_or ws e 0) 0) Due.Head (Due.Entry (get_or ws e 0))) in
        one_store h l l.agrees.0 sure q then
        (well_formed_set ws q.place q.word inside p fits.2 (words_formed h l sure) (inr (head, es, still)))
        (record { fits = refl; agrees = (refl, head, es, still, next_due p es i (get_or ws e 0) in_es (ap (λ e. get_or ws e 0) at ∙ next_stands (log_of p) es ws chain.stands i in_es)) })

  -- the head ends the commit
  settling_keeps : (l : Lawful (in_state p v task (Stage.Applying Due.Head)))
      → Lawful (through (in_state p v task (Stage.Applying Due.Head)) (Some ends_commit) (settles (in_state p v task (Stage.Applying Due.Head)))).left
  settling_keeps l =
      let h : Held = in_state p v task (Stage.Applying Due.Head) in
      let inside : head_place < length v.words = omega (arith, l.long) in
      let head : get_or (set v.words head_place 0) head_place 0 ≡ 0 = get_or-set_same v.words head_place 0 0 inside in
      let formed : WellFormed p (set v.words head_place 0) = well_formed_set v.words head_place 0 inside p (fits_apart (scope_of p) head_place 0 (λ e. omega arith) (λ e. omega arith)) (words_formed h l sure) (inl head) in
      through_keeps h ends_commit (settles h) l l.agrees.0 sure formed
      (sure_lawful p (stored v head_place 0) Stage.Settled _ (stored_founded p v head_place 0 (founded h l)) refl formed refl (refl, head))

-- in any state
stage_keeps : (p : Source) (v : Value) (task : Next) (stage : Stage) → Lawful (in_state p v task stage) → Limits v → Lawful (stepped (in_state p v task stage)).left
stage_keeps p v task Stage.Settled l limits = l
stage_keeps p v task Stage.Rest l limits = l
stage_keeps p v task (Stage.Running a) l limits =
    let sure = lit_sure v limits l.agrees.0 in
    elim (cases_Bool (ending (coming p a))) [
      | inl e ↦ running_ends p v task sure a l e
      | inr e ↦ running_goes p v task sure a l e
    ]
stage_keeps p v task (Stage.Logging es k) l limits = logging_keeps p v task (lit_sure v limits l.agrees.0) es k l
stage_keeps p v task (Stage.Applying (Due.Entry e)) l limits = applying_keeps p v task (lit_sure v limits l.agrees.0) e l
stage_keeps p v task (Stage.Applying Due.Head) l limits = settling_keeps p v task (lit_sure v limits l.agrees.0) l
stage_keeps p v task Stage.Dark l limits = l

pub step_keeps : (h : Held) → Lawful h → Limits h.memory → Lawful (stepped h).left
step_keeps h l limits = stage_keeps h.program h.memory h.task h.stage l limits
