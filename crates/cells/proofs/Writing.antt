-- A write to a three-cell memory: its three stores are one store of the memory above.
use Rattle.std.proofs.Common.{◌≡◌, ℕ, ◌+◌, ◌-◌, ◌*◌, ◌/◌, ◌<◌, ◌≤◌, true, false, eqb, List, length, get_or, set, is_some, Some, None, Ok, Err, Option, Result, sym, refl, ap, ◌∙◌, subst, ⊎_elim, arith}
use Rattle.std.proofs.lemmas.Bool.{eq-eqb, le-ltb, lt-ltb, true≢false}
use Rattle.std.proofs.lemmas.List.{set-get_or}
use Rattle.memory.specs.declared.doubt.Doubt.{Doubt}
use Rattle.memory.specs.declared.fault.Cut.{Cut}
use Rattle.memory.specs.declared.fault.Fault.{Fault}
use Rattle.memory.specs.declared.fault.Fault.TheVariants as fault
use Rattle.memory.specs.declared.fault.Raised.{Raised}
use Rattle.memory.specs.Value.{Kind, Limits, MayHold, MayHoldIn, Value, cut_at, cut_short, stored}
use Rattle.cells.specs.declared.triple.Triple.{Triple}
use Rattle.cells.specs.Triple.{Equal, reads, to_all}
use Rattle.cells.specs.Cells.{Outcome, stored_to, thirds, triple_at, words_of}
use Rattle.cells.specs.Three.{Follows, StoredAbove, ThreeLawful, raised, three_kind, three_value}
use Rattle.cells.specs.Laws.{ThreeStoresAreOne}
use Rattle.cells.specs.Members.{length_words}
use Rattle.cells.proofs.Triples.{safe_all}
use Rattle.cells.proofs.CellLists.{get_or_words, same_sets, sets, triple_puts, words_new, words_set}
use Rattle.cells.proofs.Lawful.{stored_lawful, torn_lawful}
use Rattle.cells.proofs.Stores.{Torn, lit_is, lit_value, ran}

-- cells of which the last two are equal read as these
pub reads_same : (t : Triple ℕ) → t.b ≡ t.c → reads eqb t ≡ t.b
reads_same t e = rw (eq-eqb t.b t.c e)

-- nothing is in doubt
pub sure_none : (doubt : Option Doubt) → is_some doubt ≡ false → doubt ≡ None
sure_none None s = refl
sure_none (Some d) s = absurd (true≢false s)

-- so what is found are the words
pub held_sure : (v : Value) (found : List ℕ) → v.doubt ≡ None → MayHold v found → found ≡ v.words
held_sure v found sure m = subst (λ (d : Option Doubt). MayHoldIn v.kind.whole d v.words found) sure m

-- one layer more can be counted
pub layers_counted : (v : Value) → Limits v → v.kind.layers ≤ 254
layers_counted v limits = omega (arith, limits.layers_few, limits.price_high)

-- a cut below, told one layer up
abbrev pub one_up : Cut → Cut
one_up cut = record { place = cut.place; layers = cut.layers + 1 }

pub raised_cut : (answer : Result (Unit {0}) Fault) (c : Cut) → answer ≡ Err (fault.Cut c) → c.layers ≤ 254 → raised answer ≡ Err (record { 0 = fault.Cut (one_up c) })
raised_cut answer c is h = ap raised is ∙ ap (λ n. Err (record { 0 = fault.Cut (record { place = c.place; layers = n }) })) (omega arith)

module _ (words : List ℕ) (charge : ℕ) (kind : Kind) (few : kind.layers ≤ 254) (t : ThreeLawful (lit_value words charge kind) true None) (p w : ℕ) (within : p < length words / 3) where
  abbrev below : Value
  below = lit_value words charge kind

  abbrev above : Value
  above = three_value below true None

  abbrev old : ℕ
  old = get_or (words_of words) p 0

  abbrev doubt : Doubt
  doubt = record { place = p; old = old; new = w }

  equal_all : (k : ℕ) → k < thirds words → Equal (triple_at words k)
  equal_all k h = t.sound words refl k h

  in_above : p < length (words_of words)
  in_above = rw (length_words words) within

  old_is : (triple_at words p).b ≡ old
  old_is = sym (get_or_words words p within ∙ reads_same (triple_at words p) (equal_all p within).1)

  abbrev after_all : List ℕ
  after_all = sets words p (to_all w)

  all_cells : triple_at after_all p ≡ record { a = w; b = w; c = w }
  all_cells = triple_puts (to_all w) words p (omega arith)

  all_words : words_of after_all ≡ set (words_of words) p w
  all_words = words_new p words after_all (same_sets (to_all w) words p) w within (ap (reads eqb) all_cells ∙ reads_same (record { a = w; b = w; c = w }) refl)

  -- the charge is enough
  done : (o : Outcome) → 3 * kind.price ≤ charge → o ≡ record { answer = Ok tt; value = lit_value after_all (charge - 3 * kind.price) kind } → (r : Result (Unit {0}) Raised) (after : Value) → Follows o r after → StoredAbove below p w r after
  done o paid is r after f =
      let words_are = all_words in
      let same : three_value (lit_value after_all (charge - 3 * kind.price) kind) true None ≡ stored above p w = cc in
      let answered : r ≡ Ok tt = f.answer ∙ ap (λ (x : Outcome). raised x.answer) is in
      let left : after ≡ lit_value after_all (charge - 3 * kind.price) kind = f.value ∙ ap (λ (x : Outcome). x.value) is in
      rw (answered, left) (
        stored_lawful kind t.cheap t.low p words (λ k h _. equal_all k h) (to_all w) (subst (Equal {T = ℕ}) (sym all_cells) (refl, refl)) (charge - 3 * kind.price),
        record {
          answer = sym (rw (lt-ltb p (length (words_of words)) in_above, le-ltb charge (3 * kind.price) paid));
          value = same ∙ sym (rw (lt-ltb p (length (words_of words)) in_above, le-ltb charge (3 * kind.price) paid));
        },
      )

  -- it is not
  cut : (o : Outcome) → Torn old w kind p words charge (to_all w) o → (r : Result (Unit {0}) Raised) (after : Value) → Follows o r after → StoredAbove below p w r after
  cut o c r after f =
      let low : charge < 3 * kind.price = omega (arith, c.short) in
      let answered : r ≡ Err (record { 0 = fault.Cut (cut_at (three_kind kind) charge p) }) = f.answer ∙ raised_cut o.answer _ c.answer few in
      let words_are : set (words_of o.value.words) p old ≡ words_of words = words_set p words o.value.words c.same old ∙ set-get_or (words_of words) p 0 in
      let kind_is = c.kind_kept in
      let same : three_value o.value false (Some doubt) ≡ cut_short above p w = cc in
      rw (answered, f.value) (
        torn_lawful kind t.cheap t.low p words (λ k h _. equal_all k h) (to_all w) old w charge o within c,
        record {
          answer = sym (rw (lt-ltb p (length (words_of words)) in_above, lt-ltb charge (3 * kind.price) low));
          value = same ∙ sym (rw (lt-ltb p (length (words_of words)) in_above, lt-ltb charge (3 * kind.price) low));
        },
      )

  pub stored_lit : (r : Result (Unit {0}) Raised) (after : Value) → Follows (stored_to below p (to_all w)) r after → StoredAbove below p w r after
  stored_lit r after f =
      ⊎_elim
      (λ d. done _ (omega (arith, d.0)) (d.1 ∙ ap (λ n. record { answer = Ok tt; value = lit_value after_all n kind }) (omega arith)) r after f)
      (λ c. cut _ c r after f)
      (ran old w kind p (to_all w) words charge (omega arith) (safe_all old w (triple_at words p) (equal_all p within) old_is))

-- The same of any memory below that is lit.
pub stored_above : ThreeStoresAreOne
stored_above b limits t p w within r after f =
    let lit = t.lit_below refl in
    let sure = sure_none b.doubt (limits.sure_when_lit lit) in
    let is = lit_is b lit sure in
    subst (λ (v : Value). StoredAbove v p w r after) (sym is)
    (stored_lit b.words b.charge b.kind (layers_counted b limits) (subst (λ (v : Value). ThreeLawful v true None) is t) p w within r after (subst (λ (v : Value). Follows (stored_to v p (to_all w)) r after) is f))
