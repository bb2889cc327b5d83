-- `facts_of`: what the search leaves to show.
use Rattle.facts.proofs.TaskFacts.{both_found}
use Rattle.facts.proofs.tasks.facts_of.Goals as goal

pub returns : goal.returns
returns c = both_found _ _ _ _ _ _ _ c.in_ok-logged.ensures c.in_ok-emits.ensures
