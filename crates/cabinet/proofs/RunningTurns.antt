-- The turn of a running step.
use Rattle.std.proofs.Common.{◌≡◌, ℕ, ◌+◌, ◌<◌, ◌≤◌, Bool, true, false, ◌&&◌, ltb, leb, List, [], length, None, sym, refl, ap, ap₂, ◌∙◌, inl, inr, arith}
use Rattle.std.proofs.lemmas.Bool.{and_parts, cases_Bool, cond-false, cond-true, leb-true}
use Rattle.std.proofs.lemmas.Option.{unwrap_or-slice_get}
use Rattle.std.specs.List.{slice_get}
use Rattle.std.specs.Option.{unwrap_or}
use Rattle.program.specs.declared.statement.Next.{Next}
use Rattle.program.specs.declared.statement.Statement.{Statement}
use Rattle.program.specs.Runs.{Run, after}
use Rattle.program.specs.Shapes.{emits, ending, targets}
use Rattle.program.specs.Sound.{Source, all_placed, declared, few_emits, scope_of, sound, task_of}
use Rattle.program.proofs.Programs.{task_at}
use Rattle.facts.specs.declared.set.VariableSet.{VariableSet}
use Rattle.facts.specs.Sets.{has}
use Rattle.layout.specs.Places.{least_length}
use Rattle.calls.specs.Lawful.{attempt_fits}
use Rattle.calls.specs.Running.{GoesOn, coming, direct, entries, logs, view, went_on}
use Rattle.calls.specs.Stages.{Attempt, Stage}
use Rattle.calls.specs.Steps.{running_turn, turn}
use Rattle.calls.specs.Words.{number_in, variables_in}
use Rattle.calls.proofs.Entries.{entries_fit, record_few}
use Rattle.calls.proofs.Fits.{attempt_goes_on, fits_parts, statement_declared}
use Rattle.calls.proofs.KeepsSteps.{went_goes_on}
use Rattle.cabinet.specs.declared.work.Work.{Work}
use Rattle.cabinet.specs.Running.{comes, end_turn, fits, on_turn, sees, turn_fits, turn_seen, turn_with}
use Rattle.cabinet.specs.Starting.{IsLogged}
use Rattle.cabinet.specs.Works.{OfKind, passed, work_of, worked}
use Rattle.cabinet.proofs.Overlays.{overlay_same}
use Rattle.cabinet.proofs.RunningReads.{variables_long}
use Rattle.cabinet.proofs.Works.{does, end_known, ends_with, goes_on_with, stores_with}

-- the statement that comes is the one at its place
pub comes_there : (p : Source) (a : Attempt) → comes p a ≡ unwrap_or (slice_get (task_of p a.task) a.at) Statement.Stop
unfolding comes
comes_there p a = sym (unwrap_or-slice_get (task_of p a.task) a.at Statement.Stop)

pub declared_comes : (p : Source) (a : Attempt) → sound p ≡ true → fits p a ≡ true → declared (scope_of p) (comes p a) ≡ true
unfolding comes fits
declared_comes = statement_declared

-- an ending
pub end_fits : (p : Source) (number : ℕ) (next : Next) (a : Attempt) → sound p ≡ true → fits p a ≡ true → OfKind (comes p a) (Work.End next) → turn_fits p (end_turn number next a) ≡ true
unfolding turn_fits end_turn fits comes
end_fits p number next a h f k = entries_fit p a number next h f (end_known (scope_of p) (coming p a) next (statement_declared p a h f) k)

-- where an attempt stands
module _ (p : Source) (a : Attempt) (h : sound p ≡ true) (f : attempt_fits p a ≡ true) where
  -- a task has at most 64 statements
  short : a.at < 64
  short =
      let parts = fits_parts p a f in
      let task : List Statement = task_of p a.task in
      let sizes = (and_parts (ltb 0 (length task) && leb (length task) 64) (all_placed (scope_of p) task && few_emits task) (task_at p h a.task parts.task)).0 in
      let low = leb-true (length task) 64 (and_parts (ltb 0 (length task)) (leb (length task) 64) sizes).1 in
      omega (arith, parts.at)

  -- the record has room for what the statement that comes emits
  room : ending (coming p a) ≡ false → length a.emitted + emits (coming p a) ≤ 8
  room e =
      let b : Attempt = went_on (logs p a.task) (coming p a) (view p a []) (after (coming p a) (view p a [])) a in
      let goes : GoesOn p a b = went_goes_on p a [] in
      let few = record_few p b (fits_parts p b (attempt_goes_on p a b h f e goes)) in
      omega (arith, goes.emitted)

-- any other statement
pub on_fits : (p : Source) (logged : VariableSet) (w : Work) (a : Attempt) → sound p ≡ true → fits p a ≡ true → IsLogged p a.task logged → OfKind (comes p a) w
    → ((next : Next) → w ≡ Work.End next → ⊥) → turn_fits p (on_turn logged w a) ≡ true
unfolding turn_fits on_turn fits comes worked
on_fits p logged w a h f l k e =
    let d = does (logs p a.task) logged l.told a (coming p a) w k e in
    let far = short p a h f in
    let near = d.near in
    attempt_goes_on p a (worked logged w a) h f d.no_end
    (record {
      task = d.task;
      over = passed w;
      way = d.way;
      at = omega arith;
      inputs = ap length d.inputs;
      locals = d.locals;
      emitted = d.emitted (room p a h f d.no_end);
      copies = d.copies;
      set = d.set;
    })

-- a statement that is no ending has no end as its work
no_end : (logged : VariableSet) (s : Statement) (σ : Run) (a : Attempt) (ws : List ℕ) → ending s ≡ false → turn_with logged (work_of s σ) a ws ≡ on_turn logged (work_of s σ) a
unfolding work_of
no_end logged Statement.Stop σ a ws e = cc
no_end logged (Statement.Set n x o y) σ a ws e = refl
no_end logged (Statement.Emit x) σ a ws e = refl
no_end logged (Statement.Skip k t) σ a ws e = refl
no_end logged (Statement.Next t) σ a ws e = cc
no_end logged (Statement.Choose c t u) σ a ws e = cc

-- the turn of the work is that of the running step
pub seen_turn : (p : Source) (logged : VariableSet) (a : Attempt) (ws : List ℕ) → sound p ≡ true → attempt_fits p a ≡ true → IsLogged p a.task logged → least_length (length p.firsts) ≤ length ws → turn_seen p logged a ws ≡ running_turn p a ws
unfolding turn_seen sees comes end_turn on_turn
seen_turn p logged a ws h f l long =
    let parts = fits_parts p a f in
    let s : Statement = coming p a in
    let σ : Run = view p a ws in
    let τ : Run = after s σ in
    let logs_it : ℕ → Bool = logs p a.task in
    let vs : List ℕ = variables_in p ws in
    let same = l.told in
    let viewed : sees p logged a ws ≡ σ =
    ap (λ vs. record { inputs = a.inputs; variables = vs; locals = a.locals; emitted = a.emitted; chosen = Next.Stopped }) (overlay_same (has logged) logs_it a.copies vs (λ v m. same v (omega (arith, parts.copies)))) in
    let seen : turn_seen p logged a ws ≡ turn_with logged (work_of s σ) a ws = ap (λ σ. turn_with logged (work_of s σ) a ws) viewed in
    elim (cases_Bool (ending s)) [
      | inl e ↦ seen ∙ ap (λ w. turn_with logged w a ws) (ends_with logs_it logged same a vs s e) ∙ sym (cond-true (ending s) (turn None (Stage.Logging (entries (number_in ws) τ.chosen a) 0)) _ e)
      | inr e ↦
          let m : length p.firsts ≤ length vs = omega (arith, variables_long p ws long) in
          let known = statement_declared p a h f in
          seen ∙ no_end logged s σ a ws e
          ∙ ap₂ (λ store b. turn store (Stage.Running b)) (stores_with logs_it logged same a vs (scope_of p) s m known e) (goes_on_with logs_it logged same a vs (short p a h f) (scope_of p) s m known e (room p a h f e))
          ∙ sym (cond-false (ending s) _ (turn (direct logs_it (targets s) τ) (Stage.Running (went_on logs_it s σ τ a))) e)
    ]
