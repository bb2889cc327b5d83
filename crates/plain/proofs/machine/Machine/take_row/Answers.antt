-- `Machine::take_row`: what the search leaves to show.
use Rattle.plain.specs.Machines.{running}
use Rattle.plain.proofs.Visits.{continues}
use Rattle.plain.proofs.machine.Machine.take_row.Goals as goal

pub returns : goal.returns
returns c = continues c.args.row.now (running c.args.self.now) (running c.visit.new.self) c.visit.result c.visit.ensures
