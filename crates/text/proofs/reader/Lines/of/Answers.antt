-- `Lines::of`: what the search leaves to show.
use Rattle.text.proofs.Law.{are_lines}
use Rattle.text.proofs.reader.Lines.of.Goals as goal

pub returns-clause-law : goal.returns-clause-law
returns-clause-law c = are_lines c.args.text.bytes.now
