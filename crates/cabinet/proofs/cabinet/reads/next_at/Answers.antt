use Rattle.std.proofs.Common.{rules}
use Rattle.cabinet.proofs.Next.{next_is}
use Rattle.cabinet.proofs.cabinet.reads.next_at.Goals as goal

pub returns-in-Some : goal.returns-in-Some
returns-in-Some c = next_is c.args.word c.in-Ok.number c.in-Some.task (search rules) (search rules)
