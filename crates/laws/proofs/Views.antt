-- A run on the split store is the run on the view.
use Rattle.std.proofs.Common.{◌≡◌, ℕ, zero, suc, ◌<◌, ◌≤◌, Bool, true, false, cond, not, ◌&&◌, List, [], ◌∷◌, length, get_or, set, refl, ap, ◌∙◌, inl, inr, arith}
use Rattle.std.proofs.lemmas.Bool.{cases_Bool, and_from, not_from_false}
use Rattle.program.specs.declared.statement.Target.{Target}
use Rattle.program.specs.declared.statement.Statement.{Statement}
use Rattle.program.specs.Runs.{assign, passes, exec}
use Rattle.program.specs.Paths.{writes}
use Rattle.laws.specs.Again.{SameOutside}
use Rattle.laws.specs.Views.{Split, overlay, seen, put, split_after, Room, ViewsStep, ViewsRun}
use Rattle.laws.proofs.Kept.{unaltered, set_inside, writes_own}

pub length-overlay : (p : ℕ → Bool) (cs ms : List ℕ) → length (overlay p cs ms) ≡ length ms
length-overlay p [] ms = refl
length-overlay p (c ∷ cs) [] = refl
length-overlay p (c ∷ cs) (m ∷ ms) = ap suc (length-overlay (λ v. p (suc v)) cs ms)

pub get_or-overlay : (p : ℕ → Bool) (cs ms : List ℕ) (v : ℕ) → v < length cs → v < length ms → get_or (overlay p cs ms) v 0 ≡ cond (p v) (get_or cs v 0) (get_or ms v 0)
get_or-overlay p [] ms v in_cs in_ms = absurd (omega arith)
get_or-overlay p (c ∷ cs) [] v in_cs in_ms = absurd (omega arith)
get_or-overlay p (c ∷ cs) (m ∷ ms) zero in_cs in_ms = refl
get_or-overlay p (c ∷ cs) (m ∷ ms) (suc v) in_cs in_ms = get_or-overlay (λ v. p (suc v)) cs ms v (omega arith) (omega arith)

-- a word is set above
set_over : (p : ℕ → Bool) (cs ms : List ℕ) (v x : ℕ) → length ms ≤ length cs → p v ≡ true → overlay p (set cs v x) ms ≡ set (overlay p cs ms) v x
set_over p [] [] v x room here = refl
set_over p [] (m ∷ ms) v x room here = absurd (omega arith)
set_over p (c ∷ cs) [] zero x room here = refl
set_over p (c ∷ cs) [] (suc v) x room here = refl
set_over p (c ∷ cs) (m ∷ ms) zero x room here = ap (λ b. cond b x m ∷ overlay (λ v. p (suc v)) cs ms) here
set_over p (c ∷ cs) (m ∷ ms) (suc v) x room here = ap (λ xs. cond (p 0) c m ∷ xs) (set_over (λ v. p (suc v)) cs ms v x (omega arith) here)

-- a word is set below
set_under : (p : ℕ → Bool) (cs ms : List ℕ) (v x : ℕ) → p v ≡ false → overlay p cs (set ms v x) ≡ set (overlay p cs ms) v x
set_under p [] ms v x here = refl
set_under p (c ∷ cs) [] v x here = refl
set_under p (c ∷ cs) (m ∷ ms) zero x here = ap (λ b. cond b c x ∷ overlay (λ v. p (suc v)) cs ms) here
set_under p (c ∷ cs) (m ∷ ms) (suc v) x here = ap (λ xs. cond (p 0) c m ∷ xs) (set_under (λ v. p (suc v)) cs ms v x here)

views_put : (logged : ℕ → Bool) (n : Target) (x : ℕ) (β : Split) → Room β → seen logged (put logged n x β) ≡ assign n x (seen logged β)
views_put logged (Target.Variable v) x β room =
    elim (cases_Bool (logged v.number)) [
      | inl w ↦ rw (w, set_over logged β.copies β.memory v.number x room w)
      | inr w ↦ rw (w, set_under logged β.copies β.memory v.number x w)
    ]
views_put logged (Target.Local l) x β room = refl

pub views_step : ViewsStep
views_step logged Statement.Stop β room = refl
views_step logged (Statement.Set n a o b) β room = views_put logged n _ β room
views_step logged (Statement.Emit a) β room = refl
views_step logged (Statement.Skip k t) β room = refl
views_step logged (Statement.Next t) β room = refl
views_step logged (Statement.Choose c t u) β room = refl

-- one statement alters in memory what it writes and is not logged, and of the copies what it writes and is logged
pub stores-after : (logged : ℕ → Bool) (s : Statement) (β : Split)
    → SameOutside (λ v. not (logged v) && writes s v) β.memory (split_after logged s β).memory
    × SameOutside (λ v. logged v && writes s v) β.copies (split_after logged s β).copies
stores-after logged Statement.Stop β = (unaltered, unaltered)
stores-after logged (Statement.Set (Target.Variable u) a o b) β =
    elim (cases_Bool (logged u.number)) [
      | inl w ↦ rw w (unaltered, set_inside β.copies u.number _ (and_from _ _ w (writes_own u a o b)))
      | inr w ↦ rw w (set_inside β.memory u.number _ (and_from _ _ (not_from_false _ w) (writes_own u a o b)), unaltered)
    ]
stores-after logged (Statement.Set (Target.Local l) a o b) β = (unaltered, unaltered)
stores-after logged (Statement.Emit a) β = (unaltered, unaltered)
stores-after logged (Statement.Skip k t) β = (unaltered, unaltered)
stores-after logged (Statement.Next t) β = (unaltered, unaltered)
stores-after logged (Statement.Choose c t u) β = (unaltered, unaltered)

pub room_after : (logged : ℕ → Bool) (s : Statement) (β : Split) → Room β → Room (split_after logged s β)
room_after logged s β room = let p = stores-after logged s β in omega (arith, p.0.size, p.1.size)

pub views_run : ViewsRun
views_run logged k [] β room = refl
views_run logged (suc k) (s ∷ rest) β room = views_run logged k rest β room
views_run logged zero (s ∷ rest) β room =
    views_run logged (passes s (seen logged β)) rest (split_after logged s β) (room_after logged s β room)
    ∙ ap (exec (passes s (seen logged β)) rest) (views_step logged s β room)
