-- `first_next`: what the search leaves to show.
use Rattle.std.proofs.Common.{◌≡◌, ap, rules}
use Rattle.program.specs.declared.statement.Next.{Next}
use Rattle.program.proofs.Indices.{same_index}
use Rattle.plain.proofs.machine.visits.first_next.Goals as goal

pub returns : goal.returns
returns c = let zero : c.unwrap.result.number ≡ 0 = search rules in ap Next.Task (same_index c.unwrap.result _ zero)
