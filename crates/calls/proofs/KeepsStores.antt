-- A store of a lawful cabinet: made or cut, it leaves the cabinet lawful.
use Rattle.std.proofs.Common.{◌≡◌, ℕ, ◌<◌, ◌≤◌, true, false, ◌⊎◌, List, length, get_or, set, is_some, Some, None, Ok, Err, Option, Result, sym, refl, ap, ◌∙◌, inl, inr, subst}
use Rattle.std.proofs.lemmas.Bool.{cases_lt, le-ltb, lt-ltb, true≢false}
use Rattle.std.proofs.lemmas.List.{set-get_or}
use Rattle.memory.specs.declared.doubt.Doubt.{Doubt}
use Rattle.memory.specs.declared.fault.Fault.{Fault}
use Rattle.memory.specs.declared.fault.Fault.TheVariants as fault
use Rattle.memory.specs.Value.{Limits, MayHold, MayHoldIn, Value, cut_at, cut_short, stored, write_answer, written}
use Rattle.program.specs.declared.statement.Next.{Next}
use Rattle.program.specs.Sound.{Source, sound}
use Rattle.layout.specs.declared.store.Store.{Store}
use Rattle.layout.specs.Places.{least_length}
use Rattle.calls.specs.declared.answer.Progress.{Progress}
use Rattle.calls.specs.declared.refusal.Why.{Why}
use Rattle.calls.specs.Lawful.{Lawful, MemoryFits, WellFormed, stage_fits}
use Rattle.calls.specs.Stages.{Held, Stage}
use Rattle.calls.specs.Steps.{Outcome, moved, refused, through}

-- a place in doubt there is, or none
sure_none : (doubt : Option Doubt) → is_some doubt ≡ false → doubt ≡ None
sure_none None s = refl
sure_none (Some d) s = absurd (true≢false s)

pub lit_sure : (v : Value) → Limits v → v.lit ≡ true → v.doubt ≡ None
lit_sure v limits lit = sure_none v.doubt (limits.sure_when_lit lit)

-- with nothing in doubt, the words alone may be found
pub found_sure : (v : Value) → v.doubt ≡ None → (found : List ℕ) → MayHold v found → found ≡ v.words
found_sure v sure found m = subst (λ (d : Option Doubt). MayHoldIn v.kind.whole d v.words found) sure m

-- a whole memory that is cut holds the old words, or those with the word stored
found_cut : (v : Value) (q w : ℕ) → v.kind.whole ≡ true → (found : List ℕ) → MayHold (cut_short v q w) found → (found ≡ v.words) ⊎ (found ≡ set v.words q w)
found_cut v q w whole found m =
    let doubt : Doubt = record { place = q; old = get_or v.words q 0; new = w } in
    let held = subst (λ b. MayHoldIn b (Some doubt) v.words found) whole m in
    elim held.1 [
      | inl old ↦ inl (held.2 ∙ ap (set v.words q) old ∙ set-get_or v.words q 0)
      | inr new ↦ inr (held.2 ∙ ap (set v.words q) new)
    ]

-- what is lawful of a program and a memory in any state
pub record Founded (p : Source) (v : Value) : Type 0 where
  pub program : sound p ≡ true
  pub whole : v.kind.whole ≡ true
  pub long : least_length (length p.firsts) ≤ length v.words

pub founded : (h : Held) → Lawful h → Founded h.program h.memory
founded h l = record { program = l.program; whole = l.whole; long = l.long }

-- the words that are held, where nothing is in doubt
pub words_formed : (h : Held) → Lawful h → h.memory.doubt ≡ None → WellFormed h.program h.memory.words
words_formed h l sure = l.sound_words h.memory.words (subst (λ (d : Option Doubt). MayHoldIn h.memory.kind.whole d h.memory.words h.memory.words) (sym sure) refl)

pub sure_lawful : (p : Source) (v : Value) (stage : Stage) (task : Next)
    → Founded p v → v.doubt ≡ None → WellFormed p v.words → stage_fits p stage ≡ true → MemoryFits p v stage → Lawful (record { program = p; memory = v; stage = stage; task = task })
sure_lawful p v stage task f sure formed fits agrees = record {
  program = f.program;
  whole = f.whole;
  long = f.long;
  sound_words = λ found m. subst (WellFormed p) (sym (found_sure v sure found m)) formed;
  fits = fits;
  agrees = agrees;
}

cut_lawful : (p : Source) (v : Value) (q w : ℕ) (task : Next)
    → Founded p v → WellFormed p v.words → WellFormed p (set v.words q w) → Lawful (record { program = p; memory = cut_short v q w; stage = Stage.Dark; task = task })
cut_lawful p v q w task f old new = record {
  program = f.program;
  whole = f.whole;
  long = f.long;
  sound_words = λ found m.
      elim (found_cut v q w f.whole found m) [
        | inl e ↦ subst (WellFormed p) (sym e) old
        | inr e ↦ subst (WellFormed p) (sym e) new
      ];
  fits = refl;
  agrees = refl;
}

-- what a store comes to, by its answer and the memory that it leaves
abbrev comes : Held → (Value → Outcome Progress) → Result (Unit {0}) Fault → Value → Outcome Progress
comes h done r v = elim r [
  | Ok _ ↦ done v
  | Err (fault.Cut c) ↦ record { answer = Err (Why.Memory (fault.Cut c)); left = moved h v Stage.Dark }
  | Err fault.Dark ↦ refused h (Why.Memory fault.Dark)
  | Err fault.Outside ↦ refused h (Why.Memory fault.Outside)
]

came : (h : Held) (s : Store) (done : Value → Outcome Progress) (r : Result (Unit {0}) Fault) (v : Value)
    → write_answer h.memory s.place ≡ r → written h.memory s.place s.word ≡ v → Lawful (comes h done r v).left → Lawful (through h (Some s) done).left
came h s done r v e f l =
    subst (λ (x : Result (Unit {0}) Fault). Lawful (comes h done x (written h.memory s.place s.word)).left) (sym e)
    (subst (λ (x : Value). Lawful (comes h done r x).left) (sym f) l)

module _ (h : Held) (s : Store) (lit : h.memory.lit ≡ true) where
  abbrev long : ℕ
  long = length h.memory.words

  outside : long ≤ s.place → write_answer h.memory s.place ≡ Err fault.Outside
  outside out = rw (lit, le-ltb s.place long out)

  is_cut : s.place < long → h.memory.charge < h.memory.kind.price → write_answer h.memory s.place ≡ Err (fault.Cut (cut_at h.memory.kind h.memory.charge s.place))
  is_cut inside low = rw (lit, lt-ltb s.place long inside, lt-ltb h.memory.charge h.memory.kind.price low)

  left_cut : s.place < long → h.memory.charge < h.memory.kind.price → written h.memory s.place s.word ≡ cut_short h.memory s.place s.word
  left_cut inside low = rw (lit, lt-ltb s.place long inside, lt-ltb h.memory.charge h.memory.kind.price low)

  is_made : s.place < long → h.memory.kind.price ≤ h.memory.charge → write_answer h.memory s.place ≡ Ok tt
  is_made inside paid = rw (lit, lt-ltb s.place long inside, le-ltb h.memory.charge h.memory.kind.price paid)

  left_made : s.place < long → h.memory.kind.price ≤ h.memory.charge → written h.memory s.place s.word ≡ stored h.memory s.place s.word
  left_made inside paid = rw (lit, lt-ltb s.place long inside, le-ltb h.memory.charge h.memory.kind.price paid)

pub through_keeps : (h : Held) (s : Store) (done : Value → Outcome Progress) → Lawful h → h.memory.lit ≡ true → h.memory.doubt ≡ None
    → WellFormed h.program (set h.memory.words s.place s.word) → Lawful (done (stored h.memory s.place s.word)).left → Lawful (through h (Some s) done).left
through_keeps h s done l lit sure new then =
    elim (cases_lt s.place (length h.memory.words)) [
      | inr out ↦ came h s done _ _ (outside h s lit out) refl l
      | inl inside ↦ elim (cases_lt h.memory.charge h.memory.kind.price) [
        | inl low ↦ came h s done _ _ (is_cut h s lit inside low) (left_cut h s lit inside low) (cut_lawful h.program h.memory s.place s.word h.task (founded h l) (words_formed h l sure) new)
        | inr paid ↦ came h s done _ _ (is_made h s lit inside paid) (left_made h s lit inside paid) then
      ]
    ]
