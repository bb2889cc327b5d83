use Rattle.std.proofs.Common.{sym, ◌∙◌}
use Rattle.text.specs.Seen.{held}
use Rattle.compile.proofs.Skips.{looking_goes, looking_stops}
use Rattle.compile.proofs.passes.passes_ending.Goals as goal

pub returns-in-Some : goal.returns-in-Some
returns-in-Some c = looking_stops _ _ _ (held c.in-Some.line) _ c.loop.counter c.loop-test.true c.loop.invariant c.in-Some.ensures.next (sym c.is_ending_line.ensures ∙ c.if-is_ending_line.true)

pub loop-preserved : goal.loop-preserved
loop-preserved c = looking_goes _ _ _ (held c.in-Some.line) _ c.loop.counter c.loop-test.true c.loop.invariant c.in-Some.ensures.next (sym c.is_ending_line.ensures ∙ c.if-is_ending_line.false)
