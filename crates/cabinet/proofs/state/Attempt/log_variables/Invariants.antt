-- `Attempt::log_variables`: what its loop keeps.
use Rattle.words.specs.Lists.{items}
use Rattle.cabinet.proofs.Logs.{LogsVariables}
use Rattle.cabinet.proofs.state.Attempt.log_variables.Given as goal

-- the variables so far are among the entries
abbrev pub invariant-loop-number : goal.invariant-loop-number
invariant-loop-number l = LogsVariables (items l.initial.entries) l.self.set l.self.copies l.number (items l.entries)
