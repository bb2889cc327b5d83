-- `word`: what the cells of a word read as is the word.
use Rattle.std.proofs.Common.{Ok, ap}
use Rattle.cells.proofs.Reading.{word_read}
use Rattle.three_cell.proofs.site.Site.word.Goals as goal

pub returns : goal.returns
returns g c = λ l lit h. ap Ok (word_read (g.M.Memory.seen c.args.below.now).words _ _ _ _ _ lit h (c.cells.ensures l) c.in_ok-cells.was c.value.ensures)
