-- From what the pass answers to the facts of a task.
use Rattle.std.proofs.Common.{◌≡◌, ◌↔◌, ℕ, ◌<◌, ◌≤◌, Bool, true, List, length, Ok, Err, Result, sym, ap, ◌∙◌, subst}
use Rattle.program.specs.declared.program.Program.{Program}
use Rattle.program.specs.declared.statement.Statement.{Statement}
use Rattle.program.specs.Paths.{Logged, logged_test}
use Rattle.program.specs.Programs.{program_source}
use Rattle.program.specs.Sound.{task_of}
use Rattle.program.proofs.Programs.{task_short}
use Rattle.facts.specs.declared.most.Counts.{Counts}
use Rattle.facts.specs.declared.pass.ShortScratch.{ShortScratch}
use Rattle.facts.specs.declared.touched.Touches.{Touches}
use Rattle.facts.specs.Bounds.{Found, IsTaskFacts, most_of_task, logged_count, stores_with, steps_with}
use Rattle.facts.specs.Joins.{IsOverPaths}
use Rattle.facts.specs.Most.{IsMost, counted, larger, most_over, no_counts}
use Rattle.facts.specs.Passes.{Passed}
use Rattle.facts.specs.Sets.{has, set_of, size}
use Rattle.facts.specs.Touched.{IsTouched, meet, touch, touched_over, untouched}
use Rattle.facts.proofs.Sets.{has_of, size_of}
use Rattle.facts.proofs.MostPaths.{most_is, most_is_largest, most_over_same}
use Rattle.facts.proofs.TouchedOver.{touched_is, rule_kept}

-- what is right in one sense and so in another
passed_as : {F : Type 0} (start : F) {P Q : F → Type 0} → ((f : F) → P f → Q f) → (before : List F) (r : Result F ShortScratch) (after : List F) → Passed start P before r after → Passed start Q before r after
passed_as start to before (Ok f) after (room, p, starts) = (room, to f p, starts)
passed_as start to before (Err e) after h = h

touched_right : (task : List Statement) (t : Touches) → IsOverPaths untouched touch meet task t → IsTouched task t
touched_right task t h =
    let e : t ≡ touched_over task = touched_is task t h in
    record { sets = e; rule = λ v. subst (λ x. (has x.logged v.number ≡ true) ↔ Logged task v.number) (sym e) (rule_kept task v) }

most_right : (logged : ℕ → Bool) (task : List Statement) → length task ≤ 64 → (c : Counts) → IsOverPaths no_counts (counted logged) larger task c → IsMost logged task c
most_right logged task short c h = let e : c ≡ most_over logged task = most_is logged task c short h in subst (IsMost logged task) (sym e) (most_is_largest logged task)

pub touched_found : (task : List Statement) (before : List Touches) (r : Result Touches ShortScratch) (after : List Touches)
    → Passed untouched (IsOverPaths untouched touch meet task) before r after → Passed untouched (IsTouched task) before r after
touched_found task = passed_as untouched (touched_right task)

pub most_found : (logged : ℕ → Bool) (p : Program) (t : ℕ) (before : List Counts) (r : Result Counts ShortScratch) (after : List Counts)
    → Passed no_counts (IsOverPaths no_counts (counted logged) larger (task_of (program_source p) t)) before r after
    → Passed no_counts (IsMost logged (task_of (program_source p) t)) before r after
most_found logged p t = passed_as no_counts (most_right logged (task_of (program_source p) t) (task_short p t))

-- both together

pub both_right : (task : List Statement) (t : Touches) (c : Counts) → IsTouched task t → IsMost (has t.logged) task c → IsTaskFacts task (record { logged = t.logged; emits = c.emits; direct = c.direct })
both_right task t c touched most =
    let sets : t.logged ≡ set_of (logged_test task) = ap (λ x. x.logged) touched.sets in
    let same : (v : ℕ) → v < 48 → has t.logged v ≡ logged_test task v = λ v l. ap (λ s. has s v) sets ∙ has_of (logged_test task) v l in
    let counts : c ≡ most_of_task task = most.counts ∙ most_over_same (has t.logged) (logged_test task) same task in
    let p : size t.logged ≡ logged_count task = ap size sets ∙ size_of (logged_test task) in
    record {
      logged = sets;
      rule = touched.rule;
      most = most;
      visit_stores = (λ i. stores_with (counts i).emits (counts i).direct (p i));
      visit_steps = (λ i. steps_with (counts i).emits (p i));
    }

pub both_found : (task : List Statement) (touches touches′ : List Touches) (counts counts′ : List Counts) (t : Touches) (c : Counts)
    → Passed untouched (IsTouched task) touches (Ok t) touches′ → Passed no_counts (IsMost (has t.logged) task) counts (Ok c) counts′
    → Found task touches counts (Ok (record { logged = t.logged; emits = c.emits; direct = c.direct })) touches′ counts′
both_found task touches touches′ counts counts′ t c p q = (p.0, q.0, both_right task t c p.1 q.1, p.2, q.2)
