-- `read_text`: what is filled is read of the input.
use Rattle.std.proofs.Common.{rules, length}
use Rattle.fit.proofs.Enough.{read_some}
use Rattle.fit.proofs.input.read_text.Goals as goal

pub returns : goal.returns
returns g c = read_some _ (length c.args.buffer.now) _ (search rules) c.in_ok-filled.ensures.bytes
