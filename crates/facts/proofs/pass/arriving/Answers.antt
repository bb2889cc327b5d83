-- `arriving`: what the search leaves to show.
use Rattle.std.proofs.Common.{◌-◌, length, refl, arith}
use Rattle.std.proofs.lemmas.Option.{slice_get_read}
use Rattle.facts.proofs.Leading.{leads_first, leads_next, leads_all}
use Rattle.facts.proofs.pass.arriving.Goals as goal

pub loop-from-init : goal.loop-from-init
loop-from-init g c =
    let kind = c.args.kind.now in
    let after = c.args.after.now in
    let at = c.args.at in
    let here = slice_get_read after (length after) (at - 1) c.index-after-at.result refl (omega (arith, c.requires)) c.index-after-at.is in
    rw c.saturating_sub-from.ensures (leads_first (g.K.Kind.join kind) c.args.task.now after at (g.met.K.Kind.idempotent kind) _ (omega (arith, c.requires)) (omega (arith, c.requires)) here)

pub loop-from-preserved : goal.loop-from-preserved
loop-from-preserved g c =
    let kind = c.args.kind.now in
    let laws = g.met.K.Kind in
    let task = c.args.task.now in
    let after = c.args.after.now in
    let m = c.loop-from.from in
    let here = slice_get_read task (length task) m c.index-task-from.result refl (omega (arith, c.requires)) c.index-task-from.is in
    let left = slice_get_read after (length after) m c.index-after-from.result refl (omega (arith, c.requires)) c.index-after-from.is in
    rw c.joined_past-fact.ensures
    (leads_next (g.K.Kind.join kind) task after c.args.at m _ _ c.loop-from-test.true here _ left (laws.associative kind) (laws.commutative kind) (laws.idempotent kind) c.loop-from.invariant)

pub returns : goal.returns
returns g c = leads_all (g.K.Kind.join c.args.kind.now) c.args.task.now c.args.after.now c.args.at c.loop-from.from _ (omega arith) c.loop-from.invariant
