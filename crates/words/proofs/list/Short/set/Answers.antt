-- `Short::set`: what the search leaves to show.
use Rattle.words.proofs.Kept.{take_set}
use Rattle.words.proofs.list.Short.set.Goals as goal

pub returns-then-place-len : goal.returns-then-place-len
returns-then-place-len g c = take_set c.args.self.now.count c.args.self.now.items c.args.place c.args.item
