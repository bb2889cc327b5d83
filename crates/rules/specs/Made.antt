-- What making rules of a program comes to.
use Rattle.std.specs.Prelude.{◌≡◌, ◌<◌, ◌≤◌, ◌⊎◌, List, length, replicate, Ok, Err, Result}
use Rattle.words.specs.Lists.{pushed}
use Rattle.program.specs.declared.program.Program.{Program}
use Rattle.program.specs.declared.statement.Statement.{Statement}
use Rattle.facts.specs.declared.costs.TaskFacts.{TaskFacts}
use Rattle.facts.specs.declared.most.Counts.{Counts}
use Rattle.facts.specs.declared.pass.ShortScratch.{ShortScratch}
use Rattle.facts.specs.declared.touched.Touches.{Touches}
use Rattle.facts.specs.Most.{no_counts}
use Rattle.facts.specs.Touched.{untouched}
use Rattle.rules.specs.declared.rules.Rules.{Rules}
use Rattle.rules.specs.Known.{task_facts}

-- The rules are those of the program, and start facts stand throughout both scratches; or one of them is short, and both are as
-- they were.
abbrev pub Made : Program → List Touches → List Counts → Result Rules ShortScratch → List Touches → List Counts → Type 0
Made p touches counts (Ok r) touches′ counts′ =
    (64 ≤ length touches) × (64 ≤ length counts) × (r.program ≡ p) × (touches′ ≡ replicate (length touches) untouched) × (counts′ ≡ replicate (length counts) no_counts)
Made p touches counts (Err e) touches′ counts′ = ((length touches < 64) ⊎ (length counts < 64)) × (touches′ ≡ touches) × (counts′ ≡ counts)

-- The facts of a task were put behind others, and start facts stand throughout both scratches; or one of them is short, and both
-- are as they were.
abbrev pub Added : List Statement → List TaskFacts → List Touches → List Counts → Result (Unit {0}) ShortScratch → List TaskFacts → List Touches → List Counts → Type 0
Added task facts touches counts (Ok _) facts′ touches′ counts′ =
    (64 ≤ length touches) × (64 ≤ length counts) × (facts′ ≡ pushed 16 facts (task_facts task)) × (touches′ ≡ replicate (length touches) untouched) × (counts′ ≡ replicate (length counts) no_counts)
Added task facts touches counts (Err e) facts′ touches′ counts′ = ((length touches < 64) ⊎ (length counts < 64)) × (touches′ ≡ touches) × (counts′ ≡ counts)
