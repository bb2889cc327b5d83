-- `Draft::last_size`: what the search leaves to show.
use Rattle.std.proofs.Common.{List, ◌-◌, get_or, sym, ap, ◌∙◌, arith}
use Rattle.words.specs.Lists.{items}
use Rattle.program.specs.declared.span.Span.{Span}
use Rattle.program.proofs.Spans.{length_last}
use Rattle.program.proofs.Drafts.{tasks_count}
use Rattle.program.proofs.draft.Draft.last_size.Goals as goal

pub returns : goal.returns
returns c =
    let d = c.args.self.now in
    let none : Span = record { first = 0; size = 0 } in
    let many = tasks_count d in
    let k = c.len.result - 1 in
    ap (λ (xs : List Span). (get_or xs k none).size) c.as_slice.ensures.value
    ∙ sym (length_last none (items d.statements) 0 _ (items d.spans) k d.laid (omega arith) (omega arith))
