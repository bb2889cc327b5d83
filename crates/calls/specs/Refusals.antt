-- Each refusal's number, and what is told of it.
use Rattle.std.specs.Prelude.{ℕ, None, Option}
use Rattle.memory.specs.declared.fault.Cut.{Cut}
use Rattle.memory.specs.Faults.{told}
use Rattle.calls.specs.declared.refusal.Refusal.{Refusal}
use Rattle.calls.specs.declared.refusal.Told.{Told}
use Rattle.calls.specs.declared.refusal.Why.{Why}
use Rattle.calls.specs.declared.unready.Unready.{Unready}

-- refused at begin, step, relight and record
abbrev pub number_of : Why → ℕ
number_of (Why.Memory fault) = (told fault).number
number_of Why.Busy = 30
number_of Why.Stopped = 31
number_of Why.NotTaken = 32
number_of Why.RowLength = 33
number_of Why.LastNumber = 34
number_of Why.Idle = 35
number_of Why.UnderWay = 36
number_of Why.BufferLength = 38

-- what a cut carries
abbrev pub carried_of : Why → Option Cut
carried_of (Why.Memory fault) = (told fault).carried
carried_of Why.Busy = None
carried_of Why.Stopped = None
carried_of Why.NotTaken = None
carried_of Why.RowLength = None
carried_of Why.LastNumber = None
carried_of Why.Idle = None
carried_of Why.UnderWay = None
carried_of Why.BufferLength = None

abbrev pub told_of : Refusal → Told
told_of r = record { number = number_of r.why; carried = carried_of r.why; before = r.before; task = r.task }

-- refused at lay and open
abbrev pub unready_number : Unready → ℕ
unready_number Unready.Torn = 20
unready_number Unready.Short = 21
unready_number (Unready.Memory fault) = (told fault).number
unready_number Unready.NextTask = 22
unready_number Unready.RecordLength = 23
unready_number Unready.Astray = 24
