use Rattle.std.proofs.Common.{sym, ◌∙◌}
use Rattle.text.specs.Seen.{held}
use Rattle.compile.proofs.Places.{seeking_found, seeking_on, seeking_past}
use Rattle.compile.proofs.ending.task_line.Goals as goal

pub returns-then-passed-number : goal.returns-then-passed-number
returns-then-passed-number c =
    c.place.ensures
    ∙ seeking_found _ _ _ (held c.in-Some.line) _ _ c.loop-line.invariant c.in-Some.ensures.next (sym c.opens_task.ensures ∙ c.if-opens_task.true) (c.if-passed-number.true ∙ c.number.ensures)

pub loop-line-preserved-then-opens_task : goal.loop-line-preserved-then-opens_task
loop-line-preserved-then-opens_task c =
    seeking_on _ _ _ (held c.in-Some.line) _ _ c.loop-line.invariant c.in-Some.ensures.next (sym c.opens_task.ensures ∙ c.if-opens_task.true) (λ e. c.if-passed-number.false (e ∙ sym c.number.ensures))

pub loop-line-preserved : goal.loop-line-preserved
loop-line-preserved c = seeking_past _ _ _ (held c.in-Some.line) _ _ c.loop-line.invariant c.in-Some.ensures.next (sym c.opens_task.ensures ∙ c.if-opens_task.false)
