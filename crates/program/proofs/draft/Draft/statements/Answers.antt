-- `Draft::statements`: what the search leaves to show.
use Rattle.std.proofs.Common.{◌≡◌, get_or, length, ap, arith, rules, length-drop, length-take}
use Rattle.words.specs.Lists.{items}
use Rattle.program.specs.declared.span.Span.{Span}
use Rattle.program.proofs.Drafts.{span_fits}
use Rattle.program.proofs.draft.Draft.statements.Goals as goal

abbrev none : Span
none = record { first = 0; size = 0 }

pub slice_bounds-result-end : goal.slice_bounds-result-end
slice_bounds-result-end c =
    let found : c.unwrap_or-span.result ≡ get_or (items c.args.self.now.spans) c.args.task none = search rules in
    let fits = span_fits c.args.self.now c.args.task _ found in
    omega (arith, ap length c.as_slice-table.ensures.value)

pub returns-clause-bound : goal.returns-clause-bound
returns-clause-bound c =
    let found : c.unwrap_or-span.result ≡ get_or (items c.args.self.now.spans) c.args.task none = search rules in
    let fits = span_fits c.args.self.now c.args.task _ found in
    simp (length-take, length-drop) (omega arith)
