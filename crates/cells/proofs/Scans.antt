-- Looking at the cells of every word, for what is in doubt in a memory that is made.
use Rattle.std.proofs.Common.{◌≡◌, ℕ, zero, suc, ◌+◌, ◌<◌, ◌≤◌, true, not, eqb, ◌≢◌, List, [], ◌∷◌, is_some, Some, None, Ok, Err, Option, Result, sym, refl, ap, ◌∙◌, subst, inl, inr, ⊎_elim, add-one, arith}
use Rattle.std.proofs.lemmas.Bool.{cases_eq, eqb-true, false≢true}
use Rattle.memory.specs.declared.doubt.Doubt.{Doubt}
use Rattle.memory.specs.declared.fault.Unmade.{Unmade}
use Rattle.memory.specs.Value.{Limits, MayHold, Value}
use Rattle.cells.specs.Triple.{Equal, To, mends}
use Rattle.cells.specs.Cells.{thirds, triple_at}
use Rattle.cells.specs.Three.{MadeAbove, SoundAt, ThreeLawful, between, doubt_at, judged, one_of, unequal}
use Rattle.cells.specs.Laws.{puts}
use Rattle.cells.proofs.Triples.{mends_equal}
use Rattle.cells.proofs.Writing.{held_sure, sure_none}

-- one more in doubt, or none
abbrev with_next : Option Doubt → List Doubt → List Doubt
with_next next ds = elim next [ None ↦ ds | Some d ↦ d ∷ ds ]

joined : (found next : Option Doubt) (ds : List Doubt) → Ok found ≡ judged ds → one_of found next ≡ judged (with_next next ds)
joined found None [] e = let z : found ≡ None = cc in rw z refl
joined found (Some n) [] e = let z : found ≡ None = cc in rw z refl
joined found None (d ∷ []) e = let z : found ≡ Some d = cc in rw z refl
joined found (Some n) (d ∷ []) e = let z : found ≡ Some d = cc in rw z refl
joined found next (d ∷ c ∷ rest) e = cc

module _ (words : List ℕ) where
  pub one_more : (n : ℕ) (found : Option Doubt) → Ok found ≡ judged (unequal words n) → one_of found (doubt_at words n) ≡ judged (unequal words (n + 1))
  one_more n found e = rw add-one (joined found (doubt_at words n) (unequal words n) e)

  -- two are too many, however many follow
  too_many : (next : Option Doubt) (ds : List Doubt) (why : Unmade) → judged ds ≡ Err why → judged (with_next next ds) ≡ Err why
  too_many None ds why e = e
  too_many (Some n) [] why e = cc
  too_many (Some n) (d ∷ []) why e = cc
  too_many (Some n) (d ∷ c ∷ rest) why e = e

  pub still_too_many : (n m : ℕ) (why : Unmade) → judged (unequal words n) ≡ Err why → n ≤ m → judged (unequal words m) ≡ Err why
  still_too_many n zero why e h = let z : n ≡ 0 = omega arith in subst (λ k. judged (unequal words k) ≡ Err why) z e
  still_too_many n (suc m) why e h =
      ⊎_elim
      (λ is. subst (λ k. judged (unequal words k) ≡ Err why) (sym is) e)
      (λ ne. too_many (doubt_at words m) (unequal words m) why (still_too_many n m why e (omega arith)))
      (cases_eq (suc m) n)

  -- what is in doubt of the first n words
  abbrev Scanned : ℕ → List Doubt → Type 0
  Scanned n [] = (k : ℕ) → k < n → Equal (triple_at words k)
  Scanned n (d ∷ []) = (d.place < n) × (d ≡ between words d.place) × ((k : ℕ) → k < n → k ≢ d.place → Equal (triple_at words k))
  Scanned n (d ∷ c ∷ rest) = Unit {0}

  -- the word, by the stores that would mend it
  abbrev in_doubt : ℕ → List (To ℕ) → Option Doubt
  in_doubt k ss = elim ss [ [] ↦ None | s ∷ rest ↦ Some (between words k) ]

  equal_none : (k : ℕ) (ss : List (To ℕ)) → mends eqb (triple_at words k) ≡ ss → in_doubt k ss ≡ None → Equal (triple_at words k)
  equal_none k [] is e = subst (λ (x : List (To ℕ)). Equal (puts (triple_at words k) x)) is (mends_equal eqb eqb-true (triple_at words k))
  equal_none k (s ∷ rest) is e = cc

  some-between : (k : ℕ) (d : Doubt) (ss : List (To ℕ)) → in_doubt k ss ≡ Some d → d ≡ between words k
  some-between k d [] e = cc
  some-between k d (s ∷ rest) e = cc

  below_suc : (n k : ℕ) → k < suc n → k ≢ n → k < n
  below_suc n k h ne = omega arith

  scan_next : (n : ℕ) (next : Option Doubt) (ds : List Doubt) → doubt_at words n ≡ next → Scanned n ds → Scanned (suc n) (with_next next ds)
  scan_next n None [] e s = λ k h. ⊎_elim (λ is. subst (λ j. Equal (triple_at words j)) (sym is) (equal_none n _ refl e)) (λ ne. s k (below_suc n k h ne)) (cases_eq k n)
  scan_next n (Some d) [] e s =
      let is = some-between n d _ e in
      let at : d.place ≡ n = ap (λ (x : Doubt). x.place) is in
      (omega arith, subst (λ j. d ≡ between words j) (sym at) is, λ k h ne. s k (omega arith))
  scan_next n None (d ∷ []) e s =
      let far = s.0 in
      (omega arith, s.1, λ k h ne. ⊎_elim (λ is. subst (λ j. Equal (triple_at words j)) (sym is) (equal_none n _ refl e)) (λ other. s.2 k (below_suc n k h other) ne) (cases_eq k n))
  scan_next n (Some c) (d ∷ []) e s = tt
  scan_next n None (d ∷ c ∷ rest) e s = tt
  scan_next n (Some x) (d ∷ c ∷ rest) e s = tt

  scanned : (n : ℕ) → Scanned n (unequal words n)
  scanned zero = λ k h. absurd (omega arith)
  scanned (suc n) = scan_next n (doubt_at words n) (unequal words n) refl (scanned n)

-- A memory made over such words keeps what a three-cell memory has to.
module _ (b : Value) (limits : Limits b) (lit : b.lit ≡ true) (cheap : b.kind.price ≤ 3) (low : b.kind.dues ≤ 2) where
  held : (found : List ℕ) → MayHold b found → found ≡ b.words
  held found m = held_sure b found (sure_none b.doubt (limits.sure_when_lit lit)) m

  nothing_below : (e : Doubt) → b.doubt ≡ Some e → ⊥
  nothing_below e is = let none = sure_none b.doubt (limits.sure_when_lit lit) in cc

  made_by : (doubt : Option Doubt) (ds : List Doubt) → Ok doubt ≡ judged ds → Scanned b.words (thirds b.words) ds → ThreeLawful b (not (is_some doubt)) doubt
  made_by doubt [] e s =
      let z : doubt ≡ None = cc in
      rw z (record {
        cheap = cheap;
        low = low;
        sure = λ _. refl;
        lit_below = λ _. lit;
        doubt_inside = λ d is. cc;
        cell_inside = λ x is. absurd (nothing_below x is);
        sound = λ found m k h. subst (λ (ws : List ℕ). Equal (triple_at ws k)) (sym (held found m)) (s k h);
      })
  made_by doubt (d ∷ []) e s =
      let z : doubt ≡ Some d = cc in
      rw z (record {
        cheap = cheap;
        low = low;
        sure = λ is. absurd (false≢true is);
        lit_below = λ is. absurd (false≢true is);
        doubt_inside = λ x is. let y : d ≡ x = cc in subst (λ (q : Doubt). q.place < thirds b.words) y s.0;
        cell_inside = λ x is. absurd (nothing_below x is);
        sound = λ found m k h.
            subst (λ (ws : List ℕ). SoundAt (Some d) ws k) (sym (held found m)) (
              λ is. inr (inr (inr (ap (λ j. (triple_at b.words j).a) is ∙ sym (ap (λ (x : Doubt). x.new) s.1)), inl (ap (λ j. (triple_at b.words j).c) is ∙ sym (ap (λ (x : Doubt). x.old) s.1)))),
              λ ne. s.2 k h ne,
            );
      })
  made_by doubt (d ∷ c ∷ rest) e s = cc

  made_lawful : (doubt : Option Doubt) → Ok doubt ≡ judged (unequal b.words (thirds b.words)) → ThreeLawful b (not (is_some doubt)) doubt
  made_lawful doubt e = made_by doubt (unequal b.words (thirds b.words)) e (scanned b.words (thirds b.words))

  pub made_above : (r : Result (Option Doubt) Unmade) → r ≡ judged (unequal b.words (thirds b.words)) → MadeAbove b r
  made_above (Ok None) e = made_lawful None e
  made_above (Ok (Some d)) e = made_lawful (Some d) e
  made_above (Err why) e = tt
