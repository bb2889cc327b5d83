-- A store that is refused and not cut alters nothing.
use Rattle.std.proofs.Common.{ap, sym, ◌∙◌}
use Rattle.memory.specs.Value.{Value}
use Rattle.calls.specs.Stages.{Held}
use Rattle.calls.specs.Steps.{Outcome, moved}
use Rattle.calls.specs.declared.answer.Progress.{Progress}
use Rattle.cabinet.specs.Cabinets.{held}
use Rattle.cabinet.specs.Running.{turn_of}
use Rattle.cabinet.proofs.Turns.{put_refused, step_refused}
use Rattle.cabinet.proofs.cabinet.Cabinet.advance.Goals as goal

pub returns-in_default-clause-advances : goal.returns-in_default-clause-advances
returns-in_default-clause-advances g c = λ l.
    let h : Held = held g.M.Memory c.args.self.now in
    let made = c.put.ensures.made l.memory_lawful in
    let due = c.in_ok-turn.ensures.turn l in
    let answer = sym made.1 ∙ c.in_default-Err.is-1 in
    let step = step_refused h (turn_of c.in_ok-turn.turn) c.in_default-Err.fault due answer c.in_default.not-Cut in
    let same = made.2 ∙ put_refused h.memory c.in_ok-turn.turn.store c.in_default-Err.fault answer c.in_default.not-Cut in
    (made.0, sym (ap (λ (o : Outcome Progress). o.answer) step), ap (λ (v : Value). moved h v h.stage) same ∙ sym (ap (λ (o : Outcome Progress). o.left) step))
