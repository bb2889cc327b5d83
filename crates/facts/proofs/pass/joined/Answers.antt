-- `joined`: what the search leaves to show.
use Rattle.std.proofs.Common.{◌+◌, length, set, length-set, refl, subst, arith}
use Rattle.std.proofs.lemmas.Option.{slice_get_read}
use Rattle.facts.specs.Joins.{IsJoin}
use Rattle.facts.proofs.Arrivals.{Arrives, Leaves, Filled, arrives_first, leaves, arrives, filled_more, arrived}
use Rattle.facts.proofs.pass.joined.Goals as goal

pub loop-at-init : goal.loop-at-init
loop-at-init g c =
    let kind = c.args.kind.now in
    let k = g.K.Kind in
    let laws = g.met.K.Kind in (
      rw c.start-fact.ensures (arrives_first (k.start kind) (k.effect kind) (k.join kind) (laws.idempotent kind) c.args.task.now),
      λ i f l. absurd (omega arith),
    )

pub loop-at-preserved : goal.loop-at-preserved
loop-at-preserved g c =
    let kind = c.args.kind.now in
    let k = g.K.Kind in
    let laws = g.met.K.Kind in
    let start = k.start kind in
    let effect = k.effect kind in
    let join = k.join kind in
    let task = c.args.task.now in
    let table = c.loop-at.scratch in
    let at = c.loop-at.at in
    let here = slice_get_read task (length task) at c.index-task-at.result refl c.loop-at-test.true c.index-task-at.is in
    let left : IsJoin join (Leaves start effect task at) c.effect.result = rw c.effect.ensures (leaves start effect join (laws.distributes kind) task at _ _ here c.loop-at.invariant.0) in
    let filled : Filled start effect join task (set table at c.effect.result) (at + 1) = filled_more start effect join task table at c.loop-at.invariant.1 _ (omega (arith, c.requires.room)) left in
    (arrives start effect join (laws.associative kind) task _ (at + 1) filled _ (omega arith) (simp length-set (omega (arith, c.requires.room))) c.arriving-fact.ensures, filled)

pub returns-clause-joins : goal.returns-clause-joins
returns-clause-joins g c =
    let kind = c.args.kind.now in
    let k = g.K.Kind in
    let laws = g.met.K.Kind in
    let task = c.args.task.now in
    let join = k.join kind in
    let whole : IsJoin join (Arrives (k.start kind) (k.effect kind) task (length task)) c.loop-at.fact =
    subst (λ n. IsJoin join (Arrives (k.start kind) (k.effect kind) task n) c.loop-at.fact) (omega arith) c.loop-at.invariant.0 in
    arrived (k.start kind) (k.effect kind) join (laws.associative kind) (laws.commutative kind) (laws.idempotent kind) task _ c.requires.stays whole
