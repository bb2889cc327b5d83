-- A relight of a three-cell memory: one word at most has unequal cells, and mending it settles what is in doubt above.
use Rattle.std.proofs.Common.{◌≡◌, ℕ, zero, suc, ◌+◌, ◌-◌, ◌*◌, ◌/◌, ◌<◌, ◌≤◌, Bool, true, false, eqb, ◌≢◌, List, [], ◌∷◌, length, set, Some, None, Ok, Err, Option, Result, sym, refl, ap, ◌∙◌, subst, inl, inr, ⊎_elim, arith}
use Rattle.std.proofs.lemmas.Bool.{cases_eq, cases_lt, eq-eqb, eqb-true, eqb-false, false≢true, le-ltb, lt-ltb}
use Rattle.std.proofs.lemmas.List.{set-set}
use Rattle.memory.specs.declared.doubt.Doubt.{Doubt}
use Rattle.memory.specs.declared.fault.Cut.{Cut}
use Rattle.memory.specs.declared.fault.Fault.{Fault}
use Rattle.memory.specs.declared.fault.Fault.TheVariants as fault
use Rattle.memory.specs.declared.fault.Raised.{Raised}
use Rattle.memory.specs.Value.{CutAgain, CutInRelight, Kind, Limits, MayHold, MayHoldIn, NoMoreInDoubt, Relights, Relit, SureWhen, Value, settled}
use Rattle.cells.specs.declared.triple.Triple.{Triple}
use Rattle.cells.specs.Triple.{A, B, C, Cell, Equal, To, Underway, mending, mends, reads, stores}
use Rattle.cells.specs.Cells.{Outcome, lowest_of, mended, mended_below, place_of, stored_to, thirds, triple_at, word_of, words_of}
use Rattle.cells.specs.Three.{Follows, RelitAbove, SoundAt, ThreeLawful, raised, three_kind, three_value}
use Rattle.cells.specs.Laws.{MendingIsARelight, puts}
use Rattle.cells.proofs.Triples.{mends_equal, mends_kept, mends_none, reads_either, safe_mends}
use Rattle.cells.proofs.CellLists.{SameBut, same_self, same_set, same_sets, same_then, sets, triple_puts, words_new, words_set}
use Rattle.cells.proofs.Kept.{then_mended}
use Rattle.cells.proofs.Lawful.{stored_lawful, torn_lawful}
use Rattle.cells.proofs.Stores.{Torn, cells_of, cost, lit_is, lit_value, ran}
use Rattle.cells.proofs.Writing.{held_sure, layers_counted, one_up, raised_cut, reads_same}

-- a word with equal cells wants no store
pub mended_equal : (v : Value) (k : ℕ) → Equal (triple_at v.words k) → mended v k ≡ record { answer = Ok tt; value = v }
mended_equal v k e = ap (λ (ss : List (To ℕ)). stored_to v k ss) (mends_none eqb eq-eqb (triple_at v.words k) e)

-- equal cells throughout want none
all_equal : (v : Value) (n : ℕ) → ((k : ℕ) → k < n → Equal (triple_at v.words k)) → mended_below v n ≡ record { answer = Ok tt; value = v }
all_equal v zero e = refl
all_equal v (suc n) e =
    let before = all_equal v n (λ k h. e k (omega arith)) in
    then_mended v v n before ∙ mended_equal v n (e n (omega arith))

-- Where one word at most has unequal cells, mending all is mending that one.
module _ (v : Value) (p : ℕ) (kept : (mended v p).answer ≡ Ok tt → (k : ℕ) → k ≢ p → triple_at (mended v p).value.words k ≡ triple_at v.words k) where
  past : (r : Result (Unit {0}) Fault) (n : ℕ) → (mended v p).answer ≡ r → n ≢ p → Equal (triple_at v.words n) → mended_below v n ≡ mended v p → mended_below v (suc n) ≡ mended v p
  past (Ok u) n answer ne e is =
      let whole : mended v p ≡ record { answer = Ok tt; value = (mended v p).value } = ap (λ (x : Result (Unit {0}) Fault). record { answer = x; value = (mended v p).value }) answer in
      let still = subst (Equal {T = ℕ}) (sym (kept answer n ne)) e in
      then_mended v (mended v p).value n (is ∙ whole) ∙ mended_equal (mended v p).value n still ∙ sym whole
  past (Err f) n answer ne e is =
      let stopped : (mended_below v n).answer ≡ Err f = ap (λ (o : Outcome). o.answer) is ∙ answer in
      ap (λ (x : Result (Unit {0}) Fault). elim x [ Ok u ↦ mended (mended_below v n).value n | Err g ↦ mended_below v n ]) stopped ∙ is

  pub one_unequal : (n : ℕ) → p < n → ((k : ℕ) → k < n → k ≢ p → Equal (triple_at v.words k)) → mended_below v n ≡ mended v p
  one_unequal zero h e = absurd (omega arith)
  one_unequal (suc n) h e =
      ⊎_elim
      (λ is. let before = all_equal v n (λ k l. e k (omega arith) (omega arith)) in then_mended v v n before ∙ ap (mended v) is)
      (λ ne. past (mended v p).answer n refl ne (e n (omega arith) ne) (one_unequal n (omega arith) (λ k l m. e k (omega arith) m)))
      (cases_eq n p)

-- a place among the three of word p is that of a cell
cell_of : (q p : ℕ) → q / 3 ≡ p → (j : Cell) × (q ≡ place_of j p)
cell_of q p e = ⊎_elim (λ is. (A, is)) (λ ne. ⊎_elim (λ is. (B, is)) (λ ne'. (C, omega arith)) (cases_eq q (3 * p + 1))) (cases_eq q (3 * p))

-- what is in doubt below lies in word p, so that the others are as they are
held_in : (whole : Bool) (doubt : Option Doubt) (words found : List ℕ) (p : ℕ) → ((e : Doubt) → doubt ≡ Some e → e.place / 3 ≡ p) → MayHoldIn whole doubt words found → SameBut p words found
held_in whole None words found p inside m = subst (SameBut p words) (sym m) (same_self p words)
held_in whole (Some e) words found p inside m =
    let c = cell_of e.place p (inside e refl) in
    subst (SameBut p words) (sym (m.2 ∙ ap (λ q. set words q m.0) c.1)) (same_set c.0 p m.0 words)

-- With no more in doubt, the words are as they were, or some that may be held.
still_held : (b after : Value) (P : List ℕ → Type 0) → P b.words → ((found : List ℕ) → MayHold b found → P found) → NoMoreInDoubt b after → P after.words
still_held b after P same any less =
    ⊎_elim
    (λ (s : (after.doubt ≡ None) × MayHold b after.words). any after.words s.1)
    (λ (s : (after.doubt ≡ b.doubt) × (after.words ≡ b.words)). subst P (sym s.1) same)
    less

-- So no more may be held, and what a three-cell memory keeps it keeps.
module _ (b after : Value) (lit : Bool) (doubt : Option Doubt) (t : ThreeLawful b lit doubt) (kind : after.kind ≡ b.kind) (long : length after.words ≡ length b.words) (less : NoMoreInDoubt b after) where
  may_before : (found : List ℕ) → MayHold after found → MayHold b found
  may_before found m =
      ⊎_elim
      (λ (s : (after.doubt ≡ None) × MayHold b after.words). subst (MayHold b) (sym (held_sure after found s.0 m)) s.1)
      (λ (s : (after.doubt ≡ b.doubt) × (after.words ≡ b.words)).
      subst (λ (ws : List ℕ). MayHoldIn b.kind.whole b.doubt ws found) s.1
      (subst (λ (d : Option Doubt). MayHoldIn b.kind.whole d after.words found) s.0
      (subst (λ (k : Kind). MayHoldIn k.whole after.doubt after.words found) kind m)))
      less

  doubt_before : (e : Doubt) → after.doubt ≡ Some e → b.doubt ≡ Some e
  doubt_before e is = ⊎_elim (λ (s : (after.doubt ≡ None) × MayHold b after.words). let none = s.0 in cc) (λ (s : (after.doubt ≡ b.doubt) × (after.words ≡ b.words)). sym s.0 ∙ is) less

  lawful_after : (now : Bool) → SureWhen now doubt → (now ≡ true → after.lit ≡ true) → ThreeLawful after now doubt
  lawful_after now sure lit_below = record {
    cheap = subst (λ (k : Kind). k.price ≤ 3) (sym kind) t.cheap;
    low = subst (λ (k : Kind). k.dues ≤ 2) (sym kind) t.low;
    sure = sure;
    lit_below = lit_below;
    doubt_inside = λ d e. subst (λ n. d.place < n / 3) (sym long) (t.doubt_inside d e);
    cell_inside = λ e is. t.cell_inside e (doubt_before e is);
    sound = λ found m k h. t.sound found (may_before found m) k (subst (λ n. k < n / 3) long h);
  }

-- Where a store to a cell of word p is cut, a store to the word is, at some charge below its price.
abbrev CutInWord : Kind → ℕ → ℕ → Type 0
CutInWord k p place = (y : ℕ) × (y < 3 * k.price) × (place ≡ lowest_of k y p (A ∷ B ∷ C ∷ []))

cut_in_cell : (k : Kind) (p x : ℕ) → x < k.price → (j : Cell) → CutInWord k p (k.lowest x (place_of j p))
cut_in_cell k p x low A = (x, omega arith, sym (rw (lt-ltb x k.price low)))
cut_in_cell k p x low B =
    let past_a : k.price ≤ x + k.price = omega arith in
    let left : x + k.price - k.price ≡ x = omega arith in
    (x + k.price, omega arith, sym (rw (le-ltb (x + k.price) k.price past_a, left, lt-ltb x k.price low)))
cut_in_cell k p x low C =
    let past_a : k.price ≤ x + k.price + k.price = omega arith in
    let past_b : k.price ≤ x + k.price = omega arith in
    let left_a : x + k.price + k.price - k.price ≡ x + k.price = omega arith in
    let left_b : x + k.price - k.price ≡ x = omega arith in
    (x + k.price + k.price, omega arith, sym (rw (le-ltb (x + k.price + k.price) k.price past_a, left_a, le-ltb (x + k.price) k.price past_b, left_b, lt-ltb x k.price low)))

-- so is one where a repair is cut
cut_in_repair : (k : Kind) (p c : ℕ) (bc ab : Bool) (t : Triple ℕ) → c < cost k (stores (mending bc ab t)) → CutInWord k p (lowest_of k c p (cells_of (stores (mending bc ab t))))
cut_in_repair k p c true true t h = absurd (omega arith)
cut_in_repair k p c true false t h = let low : c < k.price = omega arith in rw (lt-ltb c k.price low) (cut_in_cell k p c low A)
cut_in_repair k p c false true t h = let low : c < k.price = omega arith in rw (lt-ltb c k.price low) (cut_in_cell k p c low C)
cut_in_repair k p c false false t h =
    ⊎_elim
    (λ low. rw (lt-ltb c k.price low) (cut_in_cell k p c low B))
    (λ past. let low : c - k.price < k.price = omega arith in rw (le-ltb c k.price past, lt-ltb (c - k.price) k.price low) (cut_in_cell k p (c - k.price) low C))
    (cases_lt c k.price)

-- a repair makes two stores at most
repair_cost : (k : Kind) (bc ab : Bool) (t : Triple ℕ) → cost k (stores (mending bc ab t)) ≤ 2 * k.price
repair_cost k true true t = omega arith
repair_cost k true false t = omega arith
repair_cost k false true t = omega arith
repair_cost k false false t = omega arith

module _ (b : Value) (lit : Bool) (doubt : Option Doubt) (t : ThreeLawful b lit doubt) where
  carried_up : (cut : Cut) → CutInRelight b cut → CutInRelight (three_value b lit doubt) (one_up cut)
  carried_up cut =
      ⊎_elim
      (λ own. inl (ap one_up own))
      (λ s.
      let d = t.cell_inside s.0 s.2 in
      let c = cell_of s.0.place d.0.place d.2 in
      let y = cut_in_cell b.kind d.0.place s.1 s.3 c.0 in
      let place = y.2 in
      let there = c.1 in
      let is = s.4 in
      inr (d.0, y.0, d.1, y.1, cc))

  layers_up : (cut : Cut) → b.kind.layers ≤ 254 → CutInRelight b cut → cut.layers ≤ 254
  layers_up cut few = ⊎_elim (λ own. let is : cut.layers ≡ b.kind.layers = ap (λ (c : Cut). c.layers) own in omega arith) (λ s. let is : cut.layers ≡ b.kind.layers = ap (λ (c : Cut). c.layers) s.4 in omega arith)

-- The memory below is cut again: what is in doubt above stays so.
module _ (b after : Value) (limits : Limits b) (lit : Bool) (doubt : Option Doubt) (t : ThreeLawful b lit doubt) (charge : ℕ) (cut : Cut) (again : CutAgain b charge cut after) (long : length after.words ≡ length b.words) (words : settled doubt (words_of after.words) ≡ settled doubt (words_of b.words)) where
  again_above : CutAgain (three_value b lit doubt) charge (one_up cut) (three_value after false doubt)
  again_above = record {
    low = omega (arith, again.low);
    dark = refl;
    spent = refl;
    no_more = inr (refl, words);
    kind = ap three_kind again.kind;
    carries = carried_up b lit doubt t cut again.carries;
  }

  pub cut_below : (f : Fault) → f ≡ fault.Cut cut → (r : Result (Unit {0}) Raised) → r ≡ raised (Err f) → RelitAbove b lit doubt charge r after
  cut_below f is r answer =
      let told : r ≡ Err (record { 0 = fault.Cut (one_up cut) }) = answer ∙ raised_cut (Err f) cut (ap Err is) (layers_up b lit doubt t cut (layers_counted b limits) again.carries) in
      rw told (lawful_after b after lit doubt t again.kind long again.no_more false (λ e. absurd (false≢true e)) (λ e. absurd (false≢true e)), (one_up cut, refl, again_above))

-- Nothing is in doubt: nothing is mended.
module _ (b : Value) (limits : Limits b) (lit : Bool) (t : ThreeLawful b lit None) (charge : ℕ) where
  sure_below : (doubt : Option Doubt) → b.doubt ≡ doubt → doubt ≡ None
  sure_below None e = refl
  sure_below (Some e) is = let d = t.cell_inside e is in let none = d.1 in cc

  held_all : (found : List ℕ) → MayHold b found → found ≡ b.words
  held_all found m = held_sure b found (sure_below b.doubt refl) m

  pub sure_cut : (f : Fault) (after : Value) → Relights b charge (Err f) after → (r : Result (Unit {0}) Raised) → r ≡ raised (Err f) → RelitAbove b lit None charge r after
  sure_cut f after e r answer =
      let same = still_held b after (λ (ws : List ℕ). ws ≡ b.words) refl held_all e.2.no_more in
      cut_below b after limits lit None t charge e.0 e.2 (ap length same) (ap words_of same) f e.1 r answer

  sure_relit : (after : Value) → Relit b charge after → RelitAbove b lit None charge (Ok tt) after
  sure_relit after e =
      let same = held_all after.words e.found in (
        lawful_after b after lit None t e.kind (ap length same) (inl (e.sure, e.found)) true (λ _. refl) (λ _. e.lit),
        record {
          lit = refl;
          sure = refl;
          found = ap words_of same;
          kind = ap three_kind e.kind;
          least = omega (arith, e.least);
          most = e.most;
        },
      )

  pub sure_done : (l : Value) → Relit b charge l → (r : Result (Unit {0}) Raised) (after : Value) → Follows (mended_below l (thirds l.words)) r after → RelitAbove b lit None charge r after
  sure_done l e r after f =
      let same = held_all l.words e.found in
      let is = all_equal l (thirds l.words) (λ k h. t.sound l.words e.found k (subst (λ (ws : List ℕ). k < length ws / 3) same h)) in
      let answered : r ≡ Ok tt = f.answer ∙ ap (λ (o : Outcome). raised o.answer) is in
      let left : after ≡ l = f.value ∙ ap (λ (o : Outcome). o.value) is in
      rw (answered, left) (sure_relit l e)

-- One word is in doubt: that one is mended.
module _ (b : Value) (limits : Limits b) (lit : Bool) (d : Doubt) (t : ThreeLawful b lit (Some d)) (charge : ℕ) where
  abbrev p : ℕ
  p = d.place

  inside : p < thirds b.words
  inside = t.doubt_inside d refl

  cell_in : (e : Doubt) → b.doubt ≡ Some e → e.place / 3 ≡ p
  cell_in e is = let c = t.cell_inside e is in let same = c.1 in let z : c.0.place ≡ p = cc in c.2 ∙ z

  held_same : (found : List ℕ) → MayHold b found → SameBut p b.words found
  held_same found m = held_in b.kind.whole b.doubt b.words found p cell_in m

  pub doubt_cut : (f : Fault) (after : Value) → Relights b charge (Err f) after → (r : Result (Unit {0}) Raised) → r ≡ raised (Err f) → RelitAbove b lit (Some d) charge r after
  doubt_cut f after e r answer =
      let same = still_held b after (SameBut p b.words) (same_self p b.words) held_same e.2.no_more in
      cut_below b after limits lit (Some d) t charge e.0 e.2 same.long (words_set p b.words after.words same d.old) f e.1 r answer

  -- the memory below is lit again
  module _ (l : Value) (e : Relit b charge l) where
    abbrev words : List ℕ
    words = l.words

    abbrev cells : Triple ℕ
    cells = triple_at words p

    same_lit : SameBut p b.words words
    same_lit = held_same words e.found

    in_lit : p < thirds words
    in_lit = subst (λ n. p < n / 3) (sym same_lit.long) inside

    sound_lit : (k : ℕ) → k < thirds words → SoundAt (Some d) words k
    sound_lit k h = t.sound words e.found k (subst (λ n. k < n / 3) same_lit.long h)

    under : Underway d.old d.new cells
    under = (sound_lit p in_lit).0 refl

    equal_off : (k : ℕ) → k < thirds words → k ≢ p → Equal (triple_at words k)
    equal_off k h ne = (sound_lit k h).1 ne

    abbrev lv : Value
    lv = lit_value words l.charge b.kind

    l_is : l ≡ lv
    l_is = lit_is l e.lit e.sure ∙ ap (λ (k : Kind). lit_value words l.charge k) e.kind

    abbrev ss : List (To ℕ)
    ss = mends eqb cells

    abbrev o : Outcome
    o = stored_to lv p ss

    few_stores : cost b.kind ss ≤ 2 * b.kind.price
    few_stores = repair_cost b.kind (eqb cells.b cells.c) (eqb cells.a cells.b) cells

    -- all made
    abbrev mended_words : List ℕ
    mended_words = sets words p ss

    cells_then : triple_at mended_words p ≡ puts cells ss
    cells_then = triple_puts ss words p (let h = in_lit in omega arith)

    equal_then : Equal (triple_at mended_words p)
    equal_then = subst (Equal {T = ℕ}) (sym cells_then) (mends_equal eqb eqb-true cells)

    abbrev word : ℕ
    word = reads eqb cells

    word_then : word_of mended_words p ≡ word
    word_then =
        ap (reads eqb) cells_then
        ∙ reads_same (puts cells ss) (mends_equal eqb eqb-true cells).1
        ∙ mends_kept eqb eqb-true cells

    same_then_b : SameBut p b.words mended_words
    same_then_b = same_then p b.words words mended_words same_lit (same_sets ss words p)

    done_above : (left : ℕ) → charge - b.kind.dues - 2 * b.kind.price ≤ left → left ≤ charge → Relit (three_value b lit (Some d)) charge (three_value (lit_value mended_words left b.kind) true None)
    done_above left least most = record {
      lit = refl;
      sure = refl;
      found = (
        word,
        reads_either eqb eqb-true eqb-false d.old d.new cells under,
        words_new p b.words mended_words same_then_b word inside word_then ∙ sym (set-set (words_of b.words) p d.old word),
      );
      kind = refl;
      least = omega arith;
      most = most;
    }

    -- cut at one of them
    module _ (c : Torn d.old d.new b.kind p words l.charge ss o) where
      torn_same : SameBut p b.words o.value.words
      torn_same = same_then p b.words words o.value.words same_lit c.same

      abbrev told : Cut
      told = record { place = lowest_of b.kind l.charge p (cells_of ss); layers = b.kind.layers }

      torn_above : CutAgain (three_value b lit (Some d)) charge (one_up told) (three_value o.value false (Some d))
      torn_above = record {
        low = let s = c.short in let f = few_stores in omega (arith, e.least);
        dark = refl;
        spent = refl;
        no_more = inr (refl, words_set p b.words o.value.words torn_same d.old);
        kind = ap three_kind c.kind_kept;
        carries =
            let y = cut_in_repair b.kind p l.charge (eqb cells.b cells.c) (eqb cells.a cells.b) cells c.short in
            inr (d, y.0, refl, y.1, ap (λ n. record { place = n; layers = b.kind.layers + 1 }) y.2);
      }

    pub doubt_done : (r : Result (Unit {0}) Raised) (after : Value) → Follows (mended_below l (thirds words)) r after → RelitAbove b lit (Some d) charge r after
    doubt_done r after f =
        let h = in_lit in
        let made = ran d.old d.new b.kind p ss words l.charge (omega arith) (safe_mends eqb eqb-true eqb-false d.old d.new cells under) in
        let off : o.answer ≡ Ok tt → (k : ℕ) → k ≢ p → triple_at o.value.words k ≡ triple_at words k = λ ok k ne.
        ⊎_elim
        (λ done. ap (λ (x : Outcome). triple_at x.value.words k) done.1 ∙ (same_sets ss words p).off k ne)
        (λ c. c.same.off k ne)
        made
        in
        let all : mended_below l (thirds words) ≡ o = ap (λ (x : Value). mended_below x (thirds words)) l_is ∙ one_unequal lv p off (thirds words) in_lit equal_off in
        let answer : r ≡ raised o.answer = f.answer ∙ ap (λ (x : Outcome). raised x.answer) all in
        let value : after ≡ o.value = f.value ∙ ap (λ (x : Outcome). x.value) all in
        ⊎_elim
        (λ done.
        let paid = done.0 in
        let stores_few = few_stores in
        let least = e.least in
        let most = e.most in
        let answered : r ≡ Ok tt = answer ∙ ap (λ (x : Outcome). raised x.answer) done.1 in
        let left : after ≡ lit_value mended_words (l.charge - cost b.kind ss) b.kind = value ∙ ap (λ (x : Outcome). x.value) done.1 in
        rw (answered, left) (stored_lawful b.kind t.cheap t.low p words equal_off ss equal_then (l.charge - cost b.kind ss), done_above (l.charge - cost b.kind ss) (omega arith) (omega arith)))
        (λ c.
        let answered : r ≡ Err (record { 0 = fault.Cut (one_up (told c)) }) = answer ∙ raised_cut o.answer (told c) c.answer (layers_counted b limits) in
        rw (answered, value) (torn_lawful b.kind t.cheap t.low p words equal_off ss d.old d.new l.charge o in_lit c, (one_up (told c), refl, torn_above c)))
        made

-- A relight of the memory below, with all words mended, is a relight of the memory above.
pub relit_above : MendingIsARelight
relit_above b limits lit None t charge r after k =
    ⊎_elim (λ cut. sure_cut b limits lit t charge cut.0 after cut.1 r cut.2) (λ done. sure_done b limits lit t charge done.0 done.1 r after done.2) k
relit_above b limits lit (Some d) t charge r after k =
    ⊎_elim (λ cut. doubt_cut b limits lit d t charge cut.0 after cut.1 r cut.2) (λ done. doubt_done b limits lit d t charge done.0 done.1 r after done.2) k
