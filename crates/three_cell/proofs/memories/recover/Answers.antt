-- `recover`: a cut ends it.
use Rattle.std.proofs.Common.{inr, arith}
use Rattle.std.proofs.lemmas.Result.{err_from_is_err_and}
use Rattle.cells.specs.Cells.{thirds}
use Rattle.cells.proofs.Kept.{mending_ends}
use Rattle.three_cell.proofs.memories.recover.Goals as goal

pub returns-in_err-mend-clause-relit : goal.returns-in_err-mend-clause-relit
returns-in_err-mend-clause-relit g c = λ l.
    let lit = c.in_ok-relight.ensures.relit l in
    let i = c.loop-place.invariant.0 lit.0 lit.1.lit in
    let n = c.len-place-end.ensures lit.0 in
    let long = i.1.kept.long in
    let h = c.loop-place-test.true in
    let m = c.in_err-mend.ensures.mends i.0 i.1.kept.lit (omega arith) in
    let e = err_from_is_err_and c.from_residual-in_err-mend.result c.from_residual-in_err-mend.ensures.1 in
    let relit = g.M.Memory.seen c.relight.new.self in
    (m.0, inr (relit, lit.1, rw (e.1, e.2) (mending_ends relit c.loop-place.place (thirds relit.words) (g.M.Memory.seen c.loop-place.below) (g.M.Memory.seen c.mend.new.below) _ i.1 (omega arith) m.1)))
