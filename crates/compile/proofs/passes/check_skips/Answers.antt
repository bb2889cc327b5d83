use Rattle.std.proofs.Common.{sym, ap, ◌∙◌, [], Some}
use Rattle.text.specs.declared.refusal.Refusal.{Refusal}
use Rattle.text.specs.Seen.{held}
use Rattle.rounds.specs.Rounds.{skip_round}
use Rattle.compile.proofs.Going.{going_ends, going_on, going_starts, going_stops}
use Rattle.compile.proofs.Skips.{skip_fine, skip_offends}
use Rattle.compile.proofs.Accepting.{formed_of}
use Rattle.compile.proofs.passes.check_skips.Goals as goal

pub loop-line-init : goal.loop-line-init
loop-line-init c = ([], going_starts skip_round _ (formed_of [] _ c.requires))

pub returns-then-passes_ending : goal.returns-then-passes_ending
returns-then-passes_ending c =
    let g = c.loop-line.invariant in
    let n = c.in-Some.ensures.next in
    let offends = skip_offends g.0 _ _ (held c.in-Some.line) n c.passed_by.result c.passes_ending.result c.passed_by.ensures c.passes_ending.ensures c.if-passes_ending.true in
    ap (λ place. Some (Refusal.Skip place)) c.place.ensures ∙ sym (going_stops skip_round _ _ _ _ _ g.0 g.1 n offends)

pub loop-line-preserved : goal.loop-line-preserved
loop-line-preserved c =
    let g = c.loop-line.invariant in
    let n = c.in-Some.ensures.next in
    going_on skip_round _ _ _ (held c.in-Some.line) g n (skip_fine g.0 _ _ (held c.in-Some.line) n c.passed_by.result c.passes_ending.result c.passed_by.ensures c.passes_ending.ensures c.if-passes_ending.false)

pub returns : goal.returns
returns c = sym (going_ends skip_round _ _ c.loop-line.invariant.0 c.loop-line.invariant.1 c.in_default.ensures.next).0
