-- `Draft::first_flawed`: what the search leaves to show. It does not find the lemma's run by itself.
use Rattle.std.proofs.Common.{rules}
use Rattle.program.specs.Drafts.{source_of}
use Rattle.program.proofs.Flaws.{first_flawed_from}
use Rattle.program.proofs.draft.Draft.first_flawed.Goals as goal

pub returns : goal.returns
returns c = first_flawed_from (source_of c.args.self.now) _ _ _ _ c.find.ensures.ran (search rules) (λ x q k. search rules) (λ x q k. search rules)
