-- What a lawful cabinet can read for the step that is due.
use Rattle.std.proofs.Common.{◌≡◌, ℕ, ◌+◌, ◌*◌, ◌<◌, ◌≤◌, ltb, cond, ap, sym, refl, ◌∙◌, length, subst, arith, Option, Some, None, Ok, Err, inl, inr}
use Rattle.std.proofs.lemmas.Bool.{cases_Bool, cond-false, cond-true}
use Rattle.std.specs.declared.result.Result.{Result}
use Rattle.memory.specs.declared.fault.Cut.{Cut}
use Rattle.memory.specs.declared.fault.Fault.{Fault}
use Rattle.memory.specs.declared.fault.Fault.TheVariants as fault
use Rattle.memory.specs.declared.interface.Memory.{Ghosts}
use Rattle.memory.specs.Value.{Value, cut_at}
use Rattle.program.specs.Sound.{Source, scope_of}
use Rattle.layout.specs.declared.store.Store.{Store}
use Rattle.layout.specs.Places.{head_place}
use Rattle.layout.proofs.Chains.{chain_few}
use Rattle.calls.specs.declared.answer.Progress.{Progress}
use Rattle.calls.specs.declared.due.Due.{Due}
use Rattle.calls.specs.declared.refusal.Why.{Why}
use Rattle.calls.specs.Lawful.{Lawful, MemoryFits}
use Rattle.calls.specs.Stages.{Held, Stage}
use Rattle.calls.specs.Steps as calls
use Rattle.calls.specs.Steps.{Outcome, applying_turn, ends_commit, goes_on, logging_turn, moved, put, put_answer, refused, running_turn, settles, stepped, through, turn}
use Rattle.calls.proofs.KeepsSteps.{step_keeps}
use Rattle.cabinet.specs.declared.cabinet.Cabinet.{Cabinet}
use Rattle.cabinet.specs.Cabinets.{IsLawful, Readable, held}
use Rattle.cabinet.specs.Turns.{Advances, due_turn}

-- the entry that is due stands inside the memory
pub entry_inside : (p : Source) (v : Value) (e : ℕ) → MemoryFits p v (Stage.Applying (Due.Entry e)) → Readable p v → e + 2 < length v.words
entry_inside p v e m r =
    let long : 49 + 4 * length p.firsts ≤ length v.words = r.long in
    let few : length m.2 + 0 ≤ 12 + length p.firsts = chain_few (scope_of p) head_place m.2 (omega arith) m.3.sound in
    let inside : m.4.0 < length m.2 = m.4.1 in
    let there : e ≡ 13 + length p.firsts + 3 * m.4.0 = m.4.2 in
    omega arith

-- a store that is refused and not cut alters nothing, and the step is refused alike
through_refused : (h : Held) (s : Option Store) (done : Value → Outcome Progress) (f : Fault) → put_answer h.memory s ≡ Err f → ((c : Cut) → f ≡ fault.Cut c → ⊥) → through h s done ≡ refused h (Why.Memory f)
through_refused h s done fault.Dark e n = ap (λ r. elim r [ Ok _ ↦ done (put h.memory s) | Err (fault.Cut c) ↦ record { answer = Err (Why.Memory (fault.Cut c)); left = moved h (put h.memory s) Stage.Dark } | Err fault.Dark ↦ refused h (Why.Memory fault.Dark) | Err fault.Outside ↦ refused h (Why.Memory fault.Outside) ]) e
through_refused h s done fault.Outside e n = ap (λ r. elim r [ Ok _ ↦ done (put h.memory s) | Err (fault.Cut c) ↦ record { answer = Err (Why.Memory (fault.Cut c)); left = moved h (put h.memory s) Stage.Dark } | Err fault.Dark ↦ refused h (Why.Memory fault.Dark) | Err fault.Outside ↦ refused h (Why.Memory fault.Outside) ]) e
through_refused h s done (fault.Cut c) e n = absurd (n c refl)

-- behind a turn
turn_refused : (h : Held) (x t : calls.Turn) (done : Value → Outcome Progress) (f : Fault) → ◌≡◌ {A = Result calls.Turn Why} (Ok x) (Ok t) → put_answer h.memory t.store ≡ Err f → ((c : Cut) → f ≡ fault.Cut c → ⊥) → through h x.store done ≡ refused h (Why.Memory f)
turn_refused h x t done f e p n =
    let same : x ≡ t = cc in
    through_refused h x.store done f (ap (λ (y : calls.Turn). put_answer h.memory y.store) same ∙ p) n

module _ (h : Held) (t : calls.Turn) (f : Fault) (p : put_answer h.memory t.store ≡ Err f) (n : (c : Cut) → f ≡ fault.Cut c → ⊥) where
  refused_in : (stage : Stage) → due_turn (moved h h.memory stage) ≡ Ok t → stepped (moved h h.memory stage) ≡ refused (moved h h.memory stage) (Why.Memory f)
  refused_in Stage.Settled d = absurd cc
  refused_in Stage.Rest d = absurd cc
  refused_in (Stage.Running a) d =
      let x : calls.Turn = running_turn h.program a h.memory.words in
      let k : Held = moved h h.memory (Stage.Running a) in
      turn_refused k x t (goes_on k x.then) f d p n
  refused_in (Stage.Logging es j) d =
      let x : calls.Turn = logging_turn h.program es j in
      let k : Held = moved h h.memory (Stage.Logging es j) in
      turn_refused k x t (goes_on k x.then) f d p n
  refused_in (Stage.Applying (Due.Entry e)) d =
      let x : calls.Turn = applying_turn e h.memory.words in
      let k : Held = moved h h.memory (Stage.Applying (Due.Entry e)) in
      turn_refused k x t (goes_on k x.then) f d p n
  refused_in (Stage.Applying Due.Head) d =
      let k : Held = moved h h.memory (Stage.Applying Due.Head) in
      turn_refused k (turn (Some ends_commit) Stage.Settled) t (settles k) f d p n
  refused_in Stage.Dark d = absurd cc

-- a step whose store is refused and not cut is refused alike, and nothing alters
pub step_refused : (h : Held) (t : calls.Turn) (f : Fault) → due_turn h ≡ Ok t → put_answer h.memory t.store ≡ Err f → ((c : Cut) → f ≡ fault.Cut c → ⊥) → stepped h ≡ refused h (Why.Memory f)
step_refused h t f d p n = refused_in h t f p n h.stage d

pub put_refused : (v : Value) (s : Option Store) (f : Fault) → put_answer v s ≡ Err f → ((c : Cut) → f ≡ fault.Cut c → ⊥) → put v s ≡ v
put_refused v None f e n = refl
put_refused v (Some s) f e n =
    elim (cases_Bool v.lit) [
      | inr dark ↦ cond-false v.lit _ v dark
      | inl lit ↦
          elim (cases_Bool (ltb s.place (length v.words))) [
            | inr outside ↦ cond-true v.lit _ v lit ∙ cond-false (ltb s.place (length v.words)) _ v outside
            | inl inside ↦
                let answer : cond (ltb v.charge v.kind.price) (Err (fault.Cut (cut_at v.kind v.charge s.place))) (Ok tt) ≡ Err f =
                sym (cond-true v.lit _ _ lit ∙ cond-true (ltb s.place (length v.words)) _ _ inside) ∙ e in
                elim (cases_Bool (ltb v.charge v.kind.price)) [
                  | inl low ↦
                      let cut = sym (cond-true (ltb v.charge v.kind.price) (Err (fault.Cut (cut_at v.kind v.charge s.place))) (Ok tt) low) ∙ answer in
                      absurd (n (cut_at v.kind v.charge s.place) cc)
                  | inr high ↦
                      let made = sym (cond-false (ltb v.charge v.kind.price) (Err (fault.Cut (cut_at v.kind v.charge s.place))) (Ok tt) high) ∙ answer in
                      absurd cc
                ]
          ]
    ]

-- a cabinet that has made its step is lawful
pub step_lawful : {M : Type 0} (memory : Ghosts M) (c c′ : Cabinet M memory) (r : Result Progress Why) → IsLawful memory c → Advances memory c r c′ → IsLawful memory c′
step_lawful memory c c′ r l a =
    let done = a l in
    record {
      memory_lawful = done.0;
      lawful = subst Lawful (sym done.2) (step_keeps (held memory c) l.lawful (memory.limits c.memory l.memory_lawful));
    }
