-- `Machine::word`: what the search leaves to show.
use Rattle.std.proofs.Common.{◌-◌, get_or, sym, ap, ◌∙◌, arith}
use Rattle.plain.specs.Machines.{plain_of}
use Rattle.plain.proofs.Pages.{page_record, page_variables}
use Rattle.plain.proofs.machine.Machine.word.Goals as goal

pub returns-in-4-to-11 : goal.returns-in-4-to-11
returns-in-4-to-11 c = c.get.ensures ∙ ap (λ l. get_or l (c.args.place - 4) 0) c.last_record-emitted.ensures ∙ sym (page_record (plain_of c.args.self.now) c.args.place (omega arith) (omega arith))

pub returns-in_default : goal.returns-in_default
returns-in_default c = c.get-in_default.ensures ∙ sym (page_variables (plain_of c.args.self.now) c.args.place (omega arith))
