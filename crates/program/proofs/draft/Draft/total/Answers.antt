-- `Draft::total`: what the search leaves to show.
use Rattle.std.proofs.Common.{sym, ◌∙◌}
use Rattle.program.proofs.Drafts.{total_count}
use Rattle.program.proofs.draft.Draft.total.Goals as goal

pub returns : goal.returns
returns c = c.len.ensures.value ∙ sym (total_count c.args.self.now)
