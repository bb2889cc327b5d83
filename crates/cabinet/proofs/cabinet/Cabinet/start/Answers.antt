-- `Cabinet::start`
use Rattle.cabinet.specs.Cabinets.{source}
use Rattle.cabinet.proofs.cabinet.Cabinet.start.Goals as goal

pub returns-clause-fits : goal.returns-clause-fits
returns-clause-fits g c = λ inside. (c.new.ensures.fits (source c.args.self.now.rules.now) c.args.self.now.rules.now.program.checked inside).fits
