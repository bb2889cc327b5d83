-- `Visit::finish`: what the search leaves to show.
use Rattle.std.proofs.Common.{sym, ◌∙◌}
use Rattle.plain.specs.Steps.{standing}
use Rattle.plain.proofs.Visits.{goes, stops}
use Rattle.plain.proofs.visit.Visit.finish.Goals as goal

pub loop-preserved : goal.loop-preserved
loop-preserved c =
    (goes (standing c.loop.self) (standing c.step.new.self) c.step.ensures.after c.step.result c.step.ensures.answer (sym c.loop-test.ensures)).0
    ∙ c.loop.invariant

pub returns : goal.returns
returns c =
    sym (stops (standing c.loop.self) (standing c.step.new.self) c.step.ensures.after c.step.result c.step.ensures.answer (sym c.loop-test.ensures))
    ∙ c.loop.invariant
