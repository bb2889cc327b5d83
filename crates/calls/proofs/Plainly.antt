-- A running step is the plain machine's step on what the attempt sees.
use Rattle.std.proofs.Common.{◌≡◌, ℕ, suc, ◌+◌, ◌<◌, ◌≤◌, Bool, true, false, cond, ◌&&◌, ltb, leb, List, [], ◌∷◌, length, get_or, set, drop, take, replicate, None, Some, sym, refl, ap, ◌∙◌, ap₂, inl, inr, subst, arith}
use Rattle.std.specs.List.{slice_get}
use Rattle.std.proofs.lemmas.Bool.{and_parts, false≢true, true≢false, leb-true, cases_Bool, cond-false, cond-true, ltb-true}
use Rattle.std.proofs.lemmas.List.{drop_all, drop_more, drop-set-add, get_or-set_same, length-drop, length-take, length-take-le}
use Rattle.std.proofs.lemmas.Option.{slice_get-get_or}
use Rattle.std.proofs.Math.Seq.{take-set-lt}
use Rattle.program.specs.declared.statement.Next.{Next}
use Rattle.program.specs.declared.statement.Statement.{Statement}
use Rattle.program.specs.declared.statement.Target.{Target}
use Rattle.program.specs.Runs.{Run, after, exec, passes, result_of, value}
use Rattle.program.specs.Shapes.{ending, targets}
use Rattle.program.specs.Sound.{Source, counts_sound, declared, operand_declared, scope_of, sound, task_of}
use Rattle.laws.specs.Views.{Room, Split, overlay, seen, split_after}
use Rattle.laws.proofs.Views.{length-overlay, room_after, stores-after, views_step}
use Rattle.plain.specs.Plain.{begun}
use Rattle.plain.specs.Steps.{step_by, starting}
use Rattle.layout.specs.Places.{least_length, variable_place}
use Rattle.calls.specs.Laws.{EndsPlainly, GoesPlainly, RunningIsPlain, ViewAtStart, as_plain, words_with}
use Rattle.calls.specs.Lawful.{attempt_fits}
use Rattle.calls.specs.Running.{coming, direct, entries, logs, view, went_on}
use Rattle.calls.specs.Stages.{Attempt, Stage}
use Rattle.calls.specs.Steps.{Turn, turn}
use Rattle.calls.specs.Words.{number_in, variables_in}
use Rattle.calls.proofs.Fits.{ending_last, fits_parts, statement_declared}

-- Working copies that are taken over from a view

chosen_again : (b : Bool) (d m c : ℕ) → cond b (cond b (cond b d m) c) m ≡ cond b d m
chosen_again true d m c = refl
chosen_again false d m c = refl

-- a view is seen again where copies are taken over from it
seen_again : (l : ℕ → Bool) (ds cs ms : List ℕ) → length ms ≤ length ds → length ms ≤ length cs → overlay l (overlay l (overlay l ds ms) cs) ms ≡ overlay l ds ms
seen_again l [] [] [] p q = refl
seen_again l [] (c ∷ cs) [] p q = refl
seen_again l (d ∷ ds) [] [] p q = refl
seen_again l (d ∷ ds) (c ∷ cs) [] p q = refl
seen_again l [] cs (m ∷ ms) p q = absurd (omega arith)
seen_again l (d ∷ ds) [] (m ∷ ms) p q = absurd (omega arith)
seen_again l (d ∷ ds) (c ∷ cs) (m ∷ ms) p q = ap₂ (λ x xs. x ∷ xs) (chosen_again (l 0) d m c) (seen_again (λ v. l (suc v)) ds cs ms (omega arith) (omega arith))

over_itself : (l : ℕ → Bool) (ms : List ℕ) → overlay l ms ms ≡ ms
over_itself l [] = refl
over_itself l (m ∷ ms) = elim (l 0) as (λ b. cond b m m ∷ overlay (λ v. l (suc v)) ms ms ≡ m ∷ ms) [
  | true ↦ ap (λ xs. m ∷ xs) (over_itself (λ v. l (suc v)) ms)
  | false ↦ ap (λ xs. m ∷ xs) (over_itself (λ v. l (suc v)) ms)
]

module _ (logged : ℕ → Bool) (β : Split) (room : Room β) where
  -- the variables that the attempt sees behind the statement s
  variables_again : (s : Statement) → overlay logged (overlay logged (after s (seen logged β)).variables β.copies) (split_after logged s β).memory ≡ (after s (seen logged β)).variables
  variables_again s =
      let γ : Split = split_after logged s β in
      let is : (after s (seen logged β)).variables ≡ overlay logged γ.copies γ.memory = ap (λ (σ : Run). σ.variables) (sym (views_step logged s β room)) in
      let room_for_copies : length γ.memory ≤ length β.copies = omega (arith, (stores-after logged s β).0.size, room) in
      subst (λ vs. overlay logged (overlay logged vs β.copies) γ.memory ≡ vs) (sym is) (seen_again logged γ.copies β.copies γ.memory (room_after logged s β room) room_for_copies)

-- Words that a store leaves

-- a store at a variable's place sets that variable
variables_set : (p : Source) (ws : List ℕ) (v x : ℕ) → v < length p.firsts → variables_in p (set ws (variable_place v) x) ≡ set (variables_in p ws) v x
variables_set p ws v x l = ap (take (length p.firsts)) (drop-set-add 13 ws v x) ∙ take-set-lt (length p.firsts) (drop 13 ws) v x l

-- as many variables as are declared
pub variables_long : (p : Source) (ws : List ℕ) → least_length (length p.firsts) ≤ length ws → length (variables_in p ws) ≡ length p.firsts
variables_long p ws long = length-take-le (length p.firsts) (drop 13 ws) (omega (arith, length-drop 13 ws))

module _ (p : Source) (logged : ℕ → Bool) (ws : List ℕ) (long : least_length (length p.firsts) ≤ length ws) where
  module _ (inputs copies locals emitted : List ℕ) where
    abbrev split : Split
    split = record { inputs = inputs; copies = copies; memory = variables_in p ws; locals = locals; emitted = emitted; chosen = Next.Stopped }

    -- the memory behind the statement, by the store that it makes
    memory_with : (s : Statement) → declared (scope_of p) s ≡ true
        → variables_in p (words_with (direct logged (targets s) (after s (seen logged split))) ws) ≡ (split_after logged s split).memory
    memory_with Statement.Stop h = refl
    memory_with (Statement.Set (Target.Local l) a o b) h = refl
    memory_with (Statement.Emit a) h = refl
    memory_with (Statement.Skip k t) h = refl
    memory_with (Statement.Next t) h = refl
    memory_with (Statement.Choose c t u) h = refl
    memory_with (Statement.Set (Target.Variable v) a o b) h =
        let σ : Run = seen logged split in
        let x : ℕ = result_of o (value σ a) (value σ b) in
        let names = and_parts (operand_declared (scope_of p) a && (operand_declared (scope_of p) b && true)) ((ltb v.number (length p.firsts) && true) && true) h in
        let known = ltb-true v.number (length p.firsts) (and_parts (ltb v.number (length p.firsts)) true (and_parts (ltb v.number (length p.firsts) && true) true names.1).0).0 in
        let word : get_or (set σ.variables v.number x) v.number 0 ≡ x = get_or-set_same σ.variables v.number x 0 (omega (arith, known, length-overlay logged copies (variables_in p ws), variables_long p ws long)) in
        elim (cases_Bool (logged v.number)) [
          | inl w ↦ rw w refl
          | inr w ↦ rw (w, word) (variables_set p ws v.number x known)
        ]

-- what a statement that is no ending lets be
record Lets (s : Statement) (σ : Run) : Type 0 where
  inputs : (after s σ).inputs ≡ σ.inputs
  chosen : (after s σ).chosen ≡ σ.chosen

lets_be : (s : Statement) (σ : Run) → ending s ≡ false → Lets s σ
lets_be Statement.Stop σ e = absurd (true≢false e)
lets_be (Statement.Set (Target.Variable v) a o b) σ e = record { inputs = refl; chosen = refl }
lets_be (Statement.Set (Target.Local l) a o b) σ e = record { inputs = refl; chosen = refl }
lets_be (Statement.Emit a) σ e = record { inputs = refl; chosen = refl }
lets_be (Statement.Skip k t) σ e = record { inputs = refl; chosen = refl }
lets_be (Statement.Next t) σ e = absurd (true≢false e)
lets_be (Statement.Choose c t u) σ e = absurd (true≢false e)

-- an ending alters what comes next alone
record Chooses (s : Statement) (σ : Run) : Type 0 where
  emitted : (after s σ).emitted ≡ σ.emitted
  variables : (after s σ).variables ≡ σ.variables
  locals : (after s σ).locals ≡ σ.locals

chooses : (s : Statement) (σ : Run) → ending s ≡ true → Chooses s σ
chooses Statement.Stop σ e = record { emitted = refl; variables = refl; locals = refl }
chooses (Statement.Set n a o b) σ e = absurd (false≢true e)
chooses (Statement.Emit a) σ e = absurd (false≢true e)
chooses (Statement.Skip k t) σ e = absurd (false≢true e)
chooses (Statement.Next t) σ e = record { emitted = refl; variables = refl; locals = refl }
chooses (Statement.Choose c t u) σ e = record { emitted = refl; variables = refl; locals = refl }

-- THE LAWS

pub few_variables : (p : Source) → sound p ≡ true → length p.firsts ≤ 48
few_variables p h =
    let counts = (and_parts (counts_sound p) _ h).0 in
    leb-true (length p.firsts) 48 (and_parts (leb (length p.firsts) 48) (leb p.locals 8) (and_parts (leb (length p.firsts) 48 && leb p.locals 8) _ counts).0).0

module _ (p : Source) (a : Attempt) (ws : List ℕ) (h : sound p ≡ true) (fits : attempt_fits p a ≡ true) (long : least_length (length p.firsts) ≤ length ws) where
  abbrev logged : ℕ → Bool
  logged = logs p a.task

  abbrev s : Statement
  s = coming p a

  abbrev σ : Run
  σ = view p a ws

  abbrev τ : Run
  τ = after s σ

  abbrev goes : Turn
  goes = turn (direct logged (targets s) τ) (Stage.Running (went_on logged s σ τ a))

  room : length (variables_in p ws) ≤ length a.copies
  room = omega (arith, variables_long p ws long, few_variables p h, (fits_parts p a fits).copies)

  sees : ending s ≡ false → view p (went_on logged s σ τ a) (words_with goes.store ws) ≡ τ
  sees e =
      let lets = lets_be s σ e in
      let memory = memory_with p logged ws long a.inputs a.copies a.locals a.emitted s (statement_declared p a h fits) in
      let variables : overlay logged (overlay logged τ.variables a.copies) (variables_in p (words_with goes.store ws)) ≡ τ.variables =
      ap (overlay logged (overlay logged τ.variables a.copies)) memory ∙ variables_again logged (split p logged ws long a.inputs a.copies a.locals a.emitted) room s in
      λ i. record { inputs = sym lets.inputs i; variables = variables i; locals = τ.locals; emitted = τ.emitted; chosen = sym lets.chosen i }

  -- the statement that comes is the plain machine's
  comes : slice_get (task_of p a.task) a.at ≡ Some s
  comes = slice_get-get_or (task_of p a.task) a.at Statement.Stop (fits_parts p a fits).at

  goes_plainly : ending s ≡ false → GoesPlainly p a ws goes
  goes_plainly e = record {
    next = went_on logged s σ τ a;
    running = refl;
    task = refl;
    at = refl;
    sees = sees e;
    plain = ap (λ (σ : Run). record { task = task_of p a.task; at = a.at + 1 + passes s (view p a ws); run = σ }) (sees e) ∙ sym (ap (step_by (as_plain p a ws)) comes);
  }

  -- nothing comes behind an ending
  over : ending s ≡ true → exec 0 (drop a.at (task_of p a.task)) σ ≡ τ
  over e =
      let task : List Statement = task_of p a.task in
      let here : drop a.at task ≡ s ∷ drop (a.at + 1) task = drop_more task a.at Statement.Stop (fits_parts p a fits).at in
      let last = ending_last p a h fits e in
      let none : drop (a.at + 1) task ≡ [] = drop_all (a.at + 1) task (omega (arith, last)) in
      rw (here, none) refl

  ends_plainly : ending s ≡ true → EndsPlainly p a ws (turn None (Stage.Logging (entries (number_in ws) τ.chosen a) 0))
  ends_plainly e =
      let c = chooses s σ e in
      record { none = refl; logging = refl; emitted = c.emitted; variables = c.variables; locals = c.locals; over = over e }

pub running_is_plain : RunningIsPlain
running_is_plain = record {
  goes = λ p a ws h fits long e. subst (GoesPlainly p a ws) (sym (cond-false (ending (coming p a)) _ _ e)) (goes_plainly p a ws h fits long e);
  ends = λ p a ws h fits long e. subst (EndsPlainly p a ws) (sym (cond-true (ending (coming p a)) _ _ e)) (ends_plainly p a ws h fits long e);
}

variables_at_start : (p : Source) (t : ℕ) (ws : List ℕ) → sound p ≡ true → overlay (logs p t) (overlay (logs p t) (variables_in p ws) (replicate 48 0)) (variables_in p ws) ≡ variables_in p ws
variables_at_start p t ws h =
    let ms : List ℕ = variables_in p ws in
    let few : length ms ≤ 48 = omega (arith, length-take (length p.firsts) (drop 13 ws), few_variables p h) in
    subst (λ vs. overlay (logs p t) (overlay (logs p t) vs (replicate 48 0)) ms ≡ vs) (over_itself (logs p t) ms) (seen_again (logs p t) ms (replicate 48 0) ms (omega arith) few)

pub view_at_start : ViewAtStart
view_at_start = record {
  sees = λ p t row ws h. ap (begun row) (variables_at_start p t ws h);
  plain = λ p t row ws h. ap (starting (task_of p t) row) (variables_at_start p t ws h);
}
