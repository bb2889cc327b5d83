-- The entry that is due is inside the memory.
use Rattle.cabinet.proofs.Turns.{entry_inside}
use Rattle.cabinet.proofs.cabinet.Cabinet.apply.Goals as goal

pub returns-clause-turn : goal.returns-clause-turn
returns-clause-turn g c = λ lawful r m. c.entry.ensures.turn lawful r.lit (entry_inside _ _ c.args.at m r)
