-- `Attempt::log_record`: what its loop keeps.
use Rattle.words.specs.Lists.{items}
use Rattle.cabinet.proofs.Logs.{LogsWords}
use Rattle.cabinet.proofs.state.Attempt.log_record.Given as goal

-- the words so far are among the entries
abbrev pub invariant-loop-at : goal.invariant-loop-at
invariant-loop-at l = LogsWords (items l.initial.entries) (items l.self.emitted) l.at (items l.entries)
