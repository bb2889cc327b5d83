-- The layout is the program's.
use Rattle.std.proofs.Common.{sym}
use Rattle.cabinet.specs.Cabinets.{source}
use Rattle.cabinet.proofs.cabinet.Cabinet.log.Goals as goal

pub returns : goal.returns
returns g c = (c.turn.ensures.due (source c.args.self.now.rules.now) (sym c.layout.ensures), c.turn.ensures.fits (source c.args.self.now.rules.now) (sym c.layout.ensures))
