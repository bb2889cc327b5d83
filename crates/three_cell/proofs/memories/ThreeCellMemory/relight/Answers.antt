-- `relight`: with all words mended below, the memory above is relit.
use Rattle.std.proofs.Common.{rules}
use Rattle.cells.proofs.Relighting.{relit_above}
use Rattle.three_cell.proofs.memories.ThreeCellMemory.relight.Goals as goal

pub returns-in_err-recover-clause-relit : goal.returns-in_err-recover-clause-relit
returns-in_err-recover-clause-relit g c = λ l. let above = relit_above _ (g.M.Memory.limits _ l.0) _ _ l.1 _ _ _ (c.recover.ensures.relit l.0).1 in search rules

pub returns-clause-relit : goal.returns-clause-relit
returns-clause-relit g c = λ l. let above = relit_above _ (g.M.Memory.limits _ l.0) _ _ l.1 _ _ _ (c.recover.ensures.relit l.0).1 in search rules
