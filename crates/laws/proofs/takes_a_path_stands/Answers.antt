-- `takes_a_path_stands`: the law by its lemma, which the search does not apply by itself.
use Rattle.laws.proofs.Paths.{takes_a_path}
use Rattle.laws.proofs.takes_a_path_stands.Goals as goal

pub returns : goal.returns
returns c = takes_a_path
