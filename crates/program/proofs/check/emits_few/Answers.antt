-- `emits_few`: what the search leaves to show.
use Rattle.std.proofs.Common.{◌≡◌, leb, ltb, ap, sym, ◌∙◌, rules}
use Rattle.std.specs.List.{count_by}
use Rattle.program.specs.Shapes.{emits}
use Rattle.program.proofs.Checks.{few_counted}
use Rattle.program.proofs.check.emits_few.Goals as goal

pub returns : goal.returns
returns c =
    let counted : c.count.result ≡ count_by (λ s. ltb 0 (emits s)) c.args.task.now = search rules in
    ap (λ n. leb n 8) counted ∙ sym (few_counted c.args.task.now)
