use Rattle.std.proofs.Common.{◌∙◌}
use Rattle.grammar.proofs.Found.{place_seen}
use Rattle.grammar.proofs.names.lookup.place_in.Goals as goal

pub returns : goal.returns
returns c = c.place.ensures ∙ place_seen c.args.names.now c.args.word.now
