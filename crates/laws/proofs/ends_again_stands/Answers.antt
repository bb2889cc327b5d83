-- `ends_again_stands`: the law by its lemma, which the search does not apply by itself.
use Rattle.laws.proofs.Again.{ends_again}
use Rattle.laws.proofs.ends_again_stands.Goals as goal

pub returns : goal.returns
returns c = ends_again
