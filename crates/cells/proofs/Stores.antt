-- Stores to the cells of one word: all made, or cut at one of them with the word still under way.
use Rattle.std.proofs.Common.{◌≡◌, ℕ, ◌+◌, ◌-◌, ◌*◌, ◌/◌, ◌<◌, ◌≤◌, Bool, true, false, ◌⊎◌, List, [], ◌∷◌, map, length, set, Some, None, Ok, Err, Option, Result, sym, refl, ap, ◌∙◌, subst, inl, inr, ⊎_elim, arith, length-set}
use Rattle.std.proofs.lemmas.Bool.{cases_lt, le-ltb, lt-ltb}
use Rattle.memory.specs.declared.doubt.Doubt.{Doubt}
use Rattle.memory.specs.declared.fault.Fault.{Fault}
use Rattle.memory.specs.declared.fault.Fault.TheVariants as fault
use Rattle.memory.specs.Value.{Kind, Value, MayHold, cut_at, cut_short, write_answer, written}
use Rattle.cells.specs.declared.triple.Triple.{Triple}
use Rattle.cells.specs.Triple.{Cell, To, Underway, put}
use Rattle.cells.specs.Cells.{Outcome, lowest_of, place_of, stored_to, triple_at}
use Rattle.cells.specs.Laws.{Safe}
use Rattle.cells.proofs.CellLists.{SameBut, same_self, same_set, same_then, sets, triple_put}
use Rattle.cells.specs.Members.{within_three}

-- a memory that is lit, so that nothing is in doubt
abbrev pub lit_value : List ℕ → ℕ → Kind → Value
lit_value words charge kind = record { words = words; charge = charge; lit = true; doubt = None; kind = kind }

pub lit_is : (v : Value) → v.lit ≡ true → v.doubt ≡ None → v ≡ lit_value v.words v.charge v.kind
lit_is v lit sure =
    ap (λ (l : Bool). record { words = v.words; charge = v.charge; lit = l; doubt = v.doubt; kind = v.kind }) lit
    ∙ ap (λ (d : Option Doubt). record { words = v.words; charge = v.charge; lit = true; doubt = d; kind = v.kind }) sure

-- what these stores take
abbrev pub cost : Kind → List (To ℕ) → ℕ
cost kind [] = 0
cost kind (s ∷ rest) = kind.price + cost kind rest

abbrev pub cells_of : List (To ℕ) → List Cell
cells_of ss = map (λ (s : To ℕ). s.cell) ss

-- cut at one of the stores
pub record Torn (old new : ℕ) (kind : Kind) (p : ℕ) (words : List ℕ) (charge : ℕ) (ss : List (To ℕ)) (o : Outcome) : Type 0 where
  pub short : charge < cost kind ss
  pub answer : o.answer ≡ Err (fault.Cut (record { place = lowest_of kind charge p (cells_of ss); layers = kind.layers }))
  pub dark : o.value.lit ≡ false
  pub spent : o.value.charge ≡ 0
  pub kind_kept : o.value.kind ≡ kind
  pub cell_inside : (e : Doubt) → o.value.doubt ≡ Some e → e.place / 3 ≡ p
  pub same : SameBut p words o.value.words
  pub under : (found : List ℕ) → MayHold o.value found → SameBut p words found × Underway old new (triple_at found p)

-- the first store, refused or made
module _ (v : Value) (p : ℕ) (s : To ℕ) (rest : List (To ℕ)) where
  abbrev gone_on : Result (Unit {0}) Fault → Outcome
  gone_on r = elim r [ Ok u ↦ stored_to (written v (place_of s.cell p) s.unit) p rest | Err e ↦ record { answer = Err e; value = written v (place_of s.cell p) s.unit } ]

  pub first_refused : (e : Fault) → write_answer v (place_of s.cell p) ≡ Err e → stored_to v p (s ∷ rest) ≡ record { answer = Err e; value = written v (place_of s.cell p) s.unit }
  first_refused e is = ap gone_on is

  pub first_made : write_answer v (place_of s.cell p) ≡ Ok tt → stored_to v p (s ∷ rest) ≡ stored_to (written v (place_of s.cell p) s.unit) p rest
  first_made is = ap gone_on is

abbrev Ran : (old new : ℕ) (kind : Kind) (p : ℕ) (words : List ℕ) (charge : ℕ) (ss : List (To ℕ)) → Outcome → Type 0
Ran old new kind p words charge ss o =
    ((cost kind ss ≤ charge) × (o ≡ record { answer = Ok tt; value = lit_value (sets words p ss) (charge - cost kind ss) kind }))
    ⊎ Torn old new kind p words charge ss o

module _ (old new : ℕ) (kind : Kind) (p : ℕ) where
  module _ (words : List ℕ) (charge : ℕ) (s : To ℕ) (rest : List (To ℕ)) (h : place_of s.cell p < length words) where
    abbrev v : Value
    v = lit_value words charge kind

    abbrev at : ℕ
    at = place_of s.cell p

    cut_first : charge < kind.price → stored_to v p (s ∷ rest) ≡ record { answer = Err (fault.Cut (cut_at kind charge at)); value = cut_short v at s.unit }
    cut_first low =
        let answer : write_answer v at ≡ Err (fault.Cut (cut_at kind charge at)) = rw (lt-ltb at (length words) h, lt-ltb charge kind.price low) in
        let value : written v at s.unit ≡ cut_short v at s.unit = rw (lt-ltb at (length words) h, lt-ltb charge kind.price low) in
        first_refused v p s rest _ answer ∙ ap (λ (x : Value). record { answer = Err (fault.Cut (cut_at kind charge at)); value = x }) value

    past_first : kind.price ≤ charge → stored_to v p (s ∷ rest) ≡ stored_to (lit_value (set words at s.unit) (charge - kind.price) kind) p rest
    past_first paid =
        let answer : write_answer v at ≡ Ok tt = rw (lt-ltb at (length words) h, le-ltb charge kind.price paid) in
        let value : written v at s.unit ≡ lit_value (set words at s.unit) (charge - kind.price) kind = rw (lt-ltb at (length words) h, le-ltb charge kind.price paid) in
        first_made v p s rest answer ∙ ap (λ (x : Value). stored_to x p rest) value

  torn_first : (words : List ℕ) (charge : ℕ) (s : To ℕ) (rest : List (To ℕ)) → 3 * p + 2 < length words → charge < kind.price → ((x : ℕ) → Underway old new (put s.cell x (triple_at words p)))
      → Torn old new kind p words charge (s ∷ rest) (record { answer = Err (fault.Cut (cut_at kind charge (place_of s.cell p))); value = cut_short (lit_value words charge kind) (place_of s.cell p) s.unit })
  torn_first words charge s rest h low safe = record {
    short = omega arith;
    answer = rw (lt-ltb charge kind.price low);
    dark = refl;
    spent = refl;
    kind_kept = refl;
    cell_inside = λ e is. let w = within_three s.cell p in let z : place_of s.cell p ≡ e.place = cc in omega arith;
    same = same_self p words;
    under = λ found m. rw m.2 (same_set s.cell p m.0 words, subst (Underway old new) (sym (triple_put s.cell words p m.0 h)) (safe m.0));
  }

  torn_later : (words : List ℕ) (charge : ℕ) (s : To ℕ) (rest : List (To ℕ)) (o : Outcome) → kind.price ≤ charge → Torn old new kind p (set words (place_of s.cell p) s.unit) (charge - kind.price) rest o → Torn old new kind p words charge (s ∷ rest) o
  torn_later words charge s rest o paid t =
      let first = same_set s.cell p s.unit words in
      record {
        short = omega (arith, t.short);
        answer = rw (le-ltb charge kind.price paid) t.answer;
        dark = t.dark;
        spent = t.spent;
        kind_kept = t.kind_kept;
        cell_inside = t.cell_inside;
        same = same_then p _ _ _ first t.same;
        under = λ found m. let u = t.under found m in (same_then p _ _ _ first u.0, u.1);
      }

  pub ran : (ss : List (To ℕ)) (words : List ℕ) (charge : ℕ) → 3 * p + 2 < length words → Safe old new (triple_at words p) ss → Ran old new kind p words charge ss (stored_to (lit_value words charge kind) p ss)
  ran [] words charge h safe = inl (omega arith, ap (λ n. record { answer = Ok tt; value = lit_value words n kind }) (omega arith))
  ran (s ∷ rest) words charge h safe =
      let in_three = within_three s.cell p in
      let there : place_of s.cell p < length words = omega arith in
      let long = length-set words (place_of s.cell p) s.unit in
      ⊎_elim
      (λ low. inr (subst (Torn old new kind p words charge (s ∷ rest)) (sym (cut_first words charge s rest there low)) (torn_first words charge s rest h low safe.0)))
      (λ paid.
      subst (Ran old new kind p words charge (s ∷ rest)) (sym (past_first words charge s rest there paid))
      (⊎_elim
      (λ d. let left = d.0 in inl (omega arith, d.1 ∙ ap (λ n. record { answer = Ok tt; value = lit_value (sets words p (s ∷ rest)) n kind }) (omega arith)))
      (λ t. inr (torn_later words charge s rest _ paid t))
      (ran rest (set words (place_of s.cell p) s.unit) (charge - kind.price) (omega arith) (subst (λ (t : Triple ℕ). Safe old new t rest) (sym (triple_put s.cell words p s.unit h)) safe.1))))
      (cases_lt charge kind.price)
