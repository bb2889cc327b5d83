-- `Visit::new`: what the search leaves to show.
use Rattle.std.proofs.Common.{length, ap, arith}
use Rattle.program.specs.Sound.{task_of}
use Rattle.program.specs.Programs.{program_source}
use Rattle.program.proofs.Programs.{path_few}
use Rattle.laws.proofs.Paths.{takes_a_path}
use Rattle.plain.specs.Frames.{run_of}
use Rattle.plain.proofs.visit.Visit.new.Goals as goal

pub invariant_of-result : goal.invariant_of-result
invariant_of-result c =
    let p = c.args.program.now in
    let t = c.args.task.number in
    let σ = run_of c.new-frame.result in
    let none = ap (λ r. length r.emitted) c.new-frame.ensures in
    let few = path_few p t _ (takes_a_path 0 (task_of (program_source p) t) σ) in
    record { room = omega arith }
