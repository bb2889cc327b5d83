-- What the making of rules keeps, from task to task.
use Rattle.std.proofs.Common.{◌≡◌, ℕ, ◌+◌, ◌<◌, ◌≤◌, ltb, leb, ◌&&◌, List, [], ◌∷◌, ◌++◌, map, take, get_or, length, replicate, ap}
use Rattle.std.proofs.lemmas.Bool.{and_parts, leb-true, ltb-true}
use Rattle.std.proofs.lemmas.List.{get_or_past, map_more}
use Rattle.program.specs.declared.program.Program.{Program}
use Rattle.program.specs.declared.statement.Statement.{Statement}
use Rattle.program.specs.Sound.{counts_sound, task_of, total}
use Rattle.program.specs.Programs.{program_source}
use Rattle.program.proofs.Programs.{task_at}
use Rattle.facts.specs.declared.most.Counts.{Counts}
use Rattle.facts.specs.declared.touched.Touches.{Touches}
use Rattle.facts.specs.Most.{no_counts}
use Rattle.facts.specs.Touched.{untouched}
use Rattle.rules.specs.Known.{task_facts}

-- a task that the program lacks has no statement
pub lacking : (p : Program) (t : ℕ) → length (program_source p).tasks ≤ t → length (task_of (program_source p) t) ≡ 0
lacking p t h = ap length (get_or_past (program_source p).tasks t [] h)

-- and one that it has has some
pub having : (p : Program) (t : ℕ) → t < length (program_source p).tasks → 0 < length (task_of (program_source p) t)
having p t h =
    let task : List Statement = task_of (program_source p) t in
    ltb-true 0 (length task) (and_parts (ltb 0 (length task)) (leb (length task) 64) (and_parts (ltb 0 (length task) && leb (length task) 64) _ (task_at (program_source p) p.checked t h)).0).0

pub few_tasks : (p : Program) → length (program_source p).tasks ≤ 16
few_tasks p =
    let counts = (and_parts (counts_sound (program_source p)) _ p.checked).0 in
    let tasks = (and_parts (leb (length (program_source p).firsts) 48 && leb (program_source p).locals 8) _ counts).1 in
    leb-true (length (program_source p).tasks) 16 (and_parts (ltb 0 (length (program_source p).tasks)) (leb (length (program_source p).tasks) 16) (and_parts _ (leb (total (program_source p).tasks) 256) tasks).0).1

-- the facts of one task more
pub facts_more : (tasks : List (List Statement)) (n : ℕ) → n < length tasks → map task_facts (take (n + 1) tasks) ≡ map task_facts (take n tasks) ++ task_facts (get_or tasks n []) ∷ []
facts_more tasks n h = map_more task_facts tasks n [] h

-- after the first n tasks: no scratch is used before the first, and behind it start facts stand throughout both
pub record AreKept (n : ℕ) (touches touches′ : List Touches) (counts counts′ : List Counts) : Type 0 where
  pub unused : n ≡ 0 → (touches′ ≡ touches) × (counts′ ≡ counts)
  pub starts : 0 < n → (64 ≤ length touches) × (64 ≤ length counts) × (touches′ ≡ replicate (length touches) untouched) × (counts′ ≡ replicate (length counts) no_counts)
