-- `Machine::page`: what the search leaves to show.
use Rattle.std.proofs.Common.{◌≡◌, length, ◌∙◌, arith, ext_get_or}
use Rattle.plain.specs.Plain.{page}
use Rattle.plain.specs.Machines.{plain_of}
use Rattle.plain.proofs.Pages.{page-length}
use Rattle.plain.proofs.machine.Machine.page.Goals as goal

pub returns : goal.returns
returns c =
    let m = plain_of c.args.self.now in
    let long = page-length m in
    let fits : length c.args.buffer.now ≡ length (page m) = omega (arith, c.if-buffer-len.false, c.len.ensures.value) in
    (fits, ext_get_or 0 c.loop-place.buffer (page m) (c.loop-place.auto.buffer ∙ fits) (λ k h. c.loop-place.invariant k (omega arith)))
