-- `Tokens::of`: what the search leaves to show.
use Rattle.text.specs.Seen.{held}
use Rattle.text.proofs.Held.{held_few}
use Rattle.text.proofs.Lexing.{keeps, keeps_all}
use Rattle.text.proofs.lex.Tokens.of.Goals as goal

pub loop-at-preserved : goal.loop-at-preserved
loop-at-preserved c =
    keeps _ _ c.args.line.now c.loop-at.at c.loop-at-test.true (held c.loop-at.tokens) (held c.push_begun.new.self) _ c.loop-at.inside c.ink-inside.result c.ink-inside.ensures c.push_begun.ensures c.loop-at.invariant

pub returns : goal.returns
returns c = keeps_all _ _ c.loop-at.inside _ _ c.args.line.now c.loop-at.at (held_few c.loop-at.tokens) c.loop-at-test.false c.loop-at.invariant
