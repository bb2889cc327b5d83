-- `runs_again_stands`: the law by its lemma, which the search does not apply by itself.
use Rattle.laws.proofs.Again.{runs_again}
use Rattle.laws.proofs.runs_again_stands.Goals as goal

pub returns : goal.returns
returns c = runs_again
