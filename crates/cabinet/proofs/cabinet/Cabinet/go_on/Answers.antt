-- A cabinet that has made its step is lawful.
use Rattle.cabinet.proofs.Turns.{step_lawful}
use Rattle.cabinet.proofs.cabinet.Cabinet.go_on.Goals as goal

pub returns-clause-goes_on : goal.returns-clause-goes_on
returns-clause-goes_on g c = λ l. (step_lawful g.M.Memory _ _ _ l c.advance.ensures.advances, (c.advance.ensures.advances l).1, (c.advance.ensures.advances l).2)
