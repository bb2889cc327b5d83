-- What a draft says, by its table and spans.
use Rattle.std.proofs.Common.{◌+◌, ◌≤◌, inl, inr, ◌≡◌, ℕ, List, length, get_or, arith}
use lib.ListN.{length-map}
use Rattle.std.proofs.lemmas.List.{get_or_past}
use Rattle.std.proofs.lemmas.Bool.{cases_lt}
use Rattle.words.specs.Lists.{items}
use Rattle.program.specs.declared.span.Span.{Span}
use Rattle.program.specs.declared.draft.Draft.{Draft}
use Rattle.program.specs.declared.statement.Statement.{Statement}
use Rattle.program.specs.Spans.{part}
use Rattle.program.specs.Sound.{Source, total}
use Rattle.program.specs.Drafts.{source_of}
use Rattle.program.proofs.Spans.{span_inside, total_parts}

-- the same declarations with other tasks
abbrev pub with_tasks : Source → List (List Statement) → Source
with_tasks p tasks = record { firsts = p.firsts; locals = p.locals; tasks = tasks }

module _ (d : Draft) where
  pub tasks_count : length (source_of d).tasks ≡ length (items d.spans)
  tasks_count = length-map (items d.spans) (part (items d.statements))

  pub total_count : total (source_of d).tasks ≡ length (items d.statements)
  total_count = let all = total_parts (items d.statements) 0 (length (items d.statements)) (items d.spans) d.laid (omega arith) in omega arith

  -- the span of task t, with nothing in it where there is no such task: inside the table, and of at most 64 statements
  pub span_fits : (t : ℕ) (x : Span) → x ≡ get_or (items d.spans) t (record { first = 0; size = 0 }) → (x.first + x.size ≤ length (items d.statements)) × (x.size ≤ 64)
  span_fits t x e =
      let none : Span = record { first = 0; size = 0 } in
      elim (cases_lt t (length (items d.spans))) [
        | inl h ↦ rw e (span_inside 0 _ _ d.laid t none h)
        | inr h ↦ rw (e, get_or_past (items d.spans) t none h) (omega arith, omega arith)
      ]
