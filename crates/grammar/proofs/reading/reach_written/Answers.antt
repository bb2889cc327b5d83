use Rattle.forms.specs.Words.{reach_of}
use Rattle.grammar.proofs.Found.{reach_mapped}
use Rattle.grammar.proofs.reading.reach_written.Goals as goal

pub returns : goal.returns
returns c = reach_mapped c.reach.result (reach_of c.args.text.now) c.reach.ensures
