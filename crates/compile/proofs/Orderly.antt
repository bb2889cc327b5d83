-- Lines in order: declarations, and tasks that end with their only ending.
use Rattle.std.proofs.Common.{arith, ◌≡◌, refl, sym, ap, subst, ◌∙◌, ℕ, zero, suc, ◌<◌, Bool, true, false, not, cond, List, [], ◌∷◌, ◌-◌, nat_le, length, take, slice_index_or, Ok}
use Rattle.std.specs.List.{list_all, list_any}
use Rattle.std.proofs.lemmas.Bool.{and_from, ne_eqb, or_parts}
use Rattle.program.specs.declared.statement.Statement.{Statement}
use Rattle.program.specs.Shapes.{ending, ways}
use Rattle.program.specs.Sound.{all_placed, placed}
use Rattle.forms.specs.Forms.{Line, Sentence, variable, local, task, statement}
use Rattle.grammar.specs.Names.{Declared}
use Rattle.grammar.specs.Judging.{ends}
use Rattle.grammar.specs.Reading.{read_sentence}
use Rattle.rounds.specs.Rounds.{is_ending, passed_by}
use Rattle.compile.proofs.Parts.{in_front, open_part, scope_with, tasks_in}
use Rattle.compile.proofs.Behaving.{Behaves, behaves}

-- What the rounds tell of lines, where u says that the task before them is unfinished: declarations and tasks stand where none
-- is, statements where one is, each statement is read, no skip passes over an ending, and at last no task is unfinished.
abbrev pub Orderly : Declared → Bool → List Line → Type 0
Orderly d u [] = u ≡ false
Orderly d u (variable n v ∷ ls) = (u ≡ false) × Orderly d false ls
Orderly d u (local n ∷ ls) = (u ≡ false) × Orderly d false ls
Orderly d u (task n ∷ ls) = (u ≡ false) × Orderly d true ls
Orderly d u (statement s ∷ ls) = (u ≡ true) × ((st : Statement) × (read_sentence d s ≡ Ok st)) × (list_any is_ending (take (passed_by s) ls) ≡ false) × Orderly d (not (ends s)) ls

-- behind an ending a task has no more statements
ended : (d : Declared) (ls : List Line) → Orderly d false ls → open_part d ls ≡ []
ended d [] o = refl
ended d (variable n v ∷ ls) o = ended d ls o.1
ended d (local n ∷ ls) o = ended d ls o.1
ended d (task n ∷ ls) o = refl
ended d (statement s ∷ ls) o = absurd (cc (o.0))

-- behind an ending there are none, behind another statement the lines go on in order
abbrev Rest : Declared → List Line → Bool → Type 0
Rest d ls true = open_part d ls ≡ []
Rest d ls false = Orderly d true ls

rest : (d : Declared) (ls : List Line) (b : Bool) → Orderly d (not b) ls → Rest d ls b
rest d ls true o = ended d ls o
rest d ls false o = o

-- A front without an ending is shorter than the task's statements.
front_short : (d : Declared) (k : ℕ) (ls : List Line) → Orderly d true ls → list_any is_ending (take k ls) ≡ false → k < length (open_part d ls)
front_short d k [] o h = absurd (cc (o))
front_short d k (variable n v ∷ ls) o h = absurd (cc (o.0))
front_short d k (local n ∷ ls) o h = absurd (cc (o.0))
front_short d k (task n ∷ ls) o h = absurd (cc (o.0))
front_short d zero (statement s ∷ ls) o h = rw (ap (λ r. in_front r (open_part d ls)) o.1.1) (omega arith)
front_short d (suc k) (statement s ∷ ls) o h =
    let none = or_parts (ends s) (list_any is_ending (take k ls)) h in
    let on = front_short d k ls (subst (λ b. Orderly d (not b) ls) none.0 o.3) none.1 in
    rw (ap (λ r. in_front r (open_part d ls)) o.1.1) (omega arith)

-- an ending as a task's last statement
last_placed : (st : Statement) → ending st ≡ true → placed st 0 ≡ true
last_placed Statement.Stop h = refl
last_placed (Statement.Set n a o b) h = absurd (cc (h))
last_placed (Statement.Emit a) h = absurd (cc (h))
last_placed (Statement.Skip k t) h = absurd (cc (h))
last_placed (Statement.Next t) h = refl
last_placed (Statement.Choose c t u) h = refl

-- another statement before more
more_placed : (st : Statement) (n : ℕ) → 0 < n → ending st ≡ false → list_all (λ k. nat_le k (n - 1)) (ways st) ≡ true → placed st n ≡ true
more_placed st n l h w = and_from _ _ (ap (λ b. cond b (ending st) (not (ending st))) (ne_eqb n 0 (λ e. omega arith)) ∙ ap not h) w

-- what a task is to be
abbrev pub Good : Declared → List Statement → Type 0
Good d statements = (0 < length statements) × (all_placed (scope_with d) statements ≡ true)

-- A statement before those behind it; b says that it is an ending.
extended : (d : Declared) (s : Sentence) (st : Statement) (ls : List Line) → Behaves d s st → list_any is_ending (take (passed_by s) ls) ≡ false → (b : Bool) → b ≡ ends s → Rest d ls b → (b ≡ false → Good d (open_part d ls)) → Good d (st ∷ open_part d ls)
extended d s st ls h none true e r g =
    rw r (omega arith, and_from _ _ (and_from _ _ h.declares (last_placed st (h.ends_as ∙ sym e))) refl)
extended d s st ls h none false e r g =
    let good = g refl in
    (omega arith, and_from _ _ (and_from _ _ h.declares (more_placed st (length (open_part d ls)) good.0 (h.ends_as ∙ sym e) (h.near _ (front_short d (passed_by s) ls r none)))) good.1)

-- the statements up to the next task line
pub open_good : (d : Declared) (ls : List Line) → Orderly d true ls → Good d (open_part d ls)
open_good d [] o = absurd (cc (o))
open_good d (variable n v ∷ ls) o = absurd (cc (o.0))
open_good d (local n ∷ ls) o = absurd (cc (o.0))
open_good d (task n ∷ ls) o = absurd (cc (o.0))
open_good d (statement s ∷ ls) o =
    rw (ap (λ r. in_front r (open_part d ls)) o.1.1)
    (extended d s o.1.0 ls (behaves d s o.1.0 o.1.1) o.2 (ends s) refl (rest d ls (ends s) o.3) (λ e. open_good d ls (subst (λ b. Orderly d (not b) ls) e o.3)))

-- each task that the lines open
pub all_good : (d : Declared) (u : Bool) (ls : List Line) → Orderly d u ls → (t : ℕ) → t < length (tasks_in d ls) → Good d (slice_index_or (tasks_in d ls) t [])
all_good d u [] o t l = absurd (omega arith)
all_good d u (variable n v ∷ ls) o t l = all_good d false ls o.1 t l
all_good d u (local n ∷ ls) o t l = all_good d false ls o.1 t l
all_good d u (task n ∷ ls) o zero l = open_good d ls o.1
all_good d u (task n ∷ ls) o (suc t) l = all_good d true ls o.1 t (omega arith)
all_good d u (statement s ∷ ls) o t l = all_good d (not (ends s)) ls o.3 t l
