use Rattle.std.proofs.Common.{rules}
use Rattle.text.specs.Seen.{held}
use Rattle.grammar.specs.Standing.{point}
use Rattle.compile.proofs.Judging.{judging_ends, judging_goes, judging_stops}
use Rattle.compile.proofs.passes.judge_lines.Goals as goal

pub loop-line-preserved : goal.loop-line-preserved
loop-line-preserved c = judging_goes _ _ _ (held c.in-Some.line) (point c.loop-line.standing) _ c.in_ok-take.field-0 c.loop-line.invariant c.in-Some.ensures.next c.in_ok-take.ensures

pub returns-in_err-take : goal.returns-in_err-take
returns-in_err-take c =
    let stops = judging_stops _ _ _ (held c.in-Some.line) (point c.loop-line.standing) _ c.in_err-take.field-0.0 c.loop-line.invariant c.in-Some.ensures.next c.in_err-take.ensures in
    search (stops, rules)

pub returns : goal.returns
returns c = judging_ends _ _ _ c.loop-line.invariant c.in_default.ensures.next
