-- A cabinet's state as a value.
use Rattle.words.specs.Lists.{items}
use Rattle.calls.specs.Stages as value
use Rattle.cabinet.specs.declared.state.Attempt.{Attempt}
use Rattle.cabinet.specs.declared.state.State.{State}

abbrev pub attempt_of : Attempt → value.Attempt
attempt_of a = record { task = a.task.number; at = a.at; inputs = a.inputs; locals = a.locals; emitted = items a.emitted; copies = a.copies; set = a.set }

abbrev pub stage_of : State → value.Stage
stage_of State.Settled = value.Stage.Settled
stage_of State.Rest = value.Stage.Rest
stage_of (State.Running a) = value.Stage.Running (attempt_of a)
stage_of (State.Logging l) = value.Stage.Logging (items l.entries) l.stored
stage_of (State.Applying due) = value.Stage.Applying due
stage_of State.Dark = value.Stage.Dark
