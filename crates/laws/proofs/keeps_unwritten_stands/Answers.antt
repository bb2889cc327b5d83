-- `keeps_unwritten_stands`: the law by its lemma, which the search does not apply by itself.
use Rattle.laws.proofs.Kept.{keeps_unwritten}
use Rattle.laws.proofs.keeps_unwritten_stands.Goals as goal

pub returns : goal.returns
returns c = keeps_unwritten
