-- `Visit::step`: what the search leaves to show.
use Rattle.std.proofs.Common.{◌≡◌, ◌+◌, List, sym, arith}
use Rattle.program.specs.declared.statement.Statement.{Statement}
use Rattle.program.specs.Runs.{passes}
use Rattle.program.specs.Sound.{task_of}
use Rattle.program.specs.Programs.{program_source}
use Rattle.program.proofs.Programs.{task_short}
use Rattle.plain.specs.declared.visit.Visit.{Visit}
use Rattle.plain.specs.Frames.{run_of}
use Rattle.plain.proofs.Steps.{room_here, room_on}
use Rattle.std.proofs.lemmas.Option.{slice_get_within}
use Rattle.plain.proofs.visit.Visit.step.Goals as goal

abbrev task_in : Visit → List Statement
task_in v = task_of (program_source v.program.now) v.task.number

pub work-requires : goal.work-requires
work-requires c =
    let v = c.args.self.now in
    room_here (task_in v) v.at v.frame c.in_ok-statement.statement (sym c.in_ok-statement.ensures) v.room

pub overflow_add-self-2 : goal.overflow_add-self-2
overflow_add-self-2 c =
    let v = c.args.self.now in
    let s = c.in_ok-statement.statement in
    let here = slice_get_within (task_in v) v.at s (sym c.in_ok-statement.ensures) in
    let short = task_short v.program.now v.task.number in
    omega arith

pub invariant_of-self : goal.invariant_of-self
invariant_of-self c =
    let v = c.args.self.now in
    let s = c.in_ok-statement.statement in
    let on : v.at + (1 + c.passes-over.result) ≡ v.at + 1 + passes s (run_of v.frame) = omega (arith, c.passes-over.ensures) in
    record { room = room_on (task_in v) v.at v.frame s (sym c.in_ok-statement.ensures) v.room c.work.new.self _ c.work.ensures on }
