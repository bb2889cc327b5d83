-- What a three-cell memory keeps, after stores to one word that were all made, and after a cut at one of them.
use Rattle.std.proofs.Common.{◌≡◌, ℕ, ◌/◌, ◌<◌, ◌≤◌, true, false, ◌≢◌, List, length, Some, None, sym, refl, subst, ⊎_elim}
use Rattle.std.proofs.lemmas.Bool.{cases_eq, false≢true}
use Rattle.memory.specs.Value.{Kind}
use Rattle.cells.specs.Triple.{Equal, To, Underway}
use Rattle.cells.specs.Cells.{Outcome, thirds, triple_at}
use Rattle.cells.specs.Three.{ThreeLawful}
use Rattle.cells.proofs.CellLists.{same_sets, sets}
use Rattle.cells.proofs.Stores.{Torn, lit_value}

module _ (kind : Kind) (cheap : kind.price ≤ 3) (low : kind.dues ≤ 2) (p : ℕ) (words : List ℕ) (equal : (k : ℕ) → k < thirds words → k ≢ p → Equal (triple_at words k)) (ss : List (To ℕ)) where
  -- word p has equal cells then, and so have all
  pub stored_lawful : Equal (triple_at (sets words p ss) p) → (left : ℕ) → ThreeLawful (lit_value (sets words p ss) left kind) true None
  stored_lawful here left =
      let same = same_sets ss words p in
      record {
        cheap = cheap;
        low = low;
        sure = λ _. refl;
        lit_below = λ _. refl;
        doubt_inside = λ d e. cc;
        cell_inside = λ d e. cc;
        sound = λ found m k h.
            subst (λ (ws : List ℕ). Equal (triple_at ws k)) (sym m)
            (⊎_elim
            (λ e. subst (λ n. Equal (triple_at (sets words p ss) n)) (sym e) here)
            (λ ne. subst (Equal {T = ℕ}) (sym (same.off k ne)) (equal k (subst (λ n. k < n / 3) same.long h) ne))
            (cases_eq k p));
      }

  -- word p is in doubt, and under way
  pub torn_lawful : (old new charge : ℕ) (o : Outcome) → p < thirds words → Torn old new kind p words charge ss o → ThreeLawful o.value false (Some (record { place = p; old = old; new = new }))
  torn_lawful old new charge o within c =
      let same = c.same in
      record {
        cheap = subst (λ (k : Kind). k.price ≤ 3) (sym c.kind_kept) cheap;
        low = subst (λ (k : Kind). k.dues ≤ 2) (sym c.kind_kept) low;
        sure = λ e. absurd (false≢true e);
        lit_below = λ e. absurd (false≢true e);
        doubt_inside = λ d e. let z : p ≡ d.place = cc in subst (λ n. n < length o.value.words / 3) z (subst (λ n. p < n / 3) (sym same.long) within);
        cell_inside = λ e is. (record { place = p; old = old; new = new }, refl, c.cell_inside e is);
        sound = λ found m k h.
            let u = c.under found m in (
              λ e. subst (λ n. Underway old new (triple_at found n)) (sym e) u.1,
              λ ne. subst (Equal {T = ℕ}) (sym (u.0.off k ne)) (equal k (subst (λ n. k < n / 3) same.long h) ne),
            );
      }
