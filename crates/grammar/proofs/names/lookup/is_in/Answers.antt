use Rattle.std.proofs.Common.{◌∙◌}
use Rattle.grammar.proofs.Found.{among_seen}
use Rattle.grammar.proofs.names.lookup.is_in.Goals as goal

pub returns : goal.returns
returns c = c.is_one_of.ensures ∙ among_seen c.args.names.now c.args.word.now
