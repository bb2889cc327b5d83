use Rattle.text.specs.Reading.{lines_left}
use Rattle.compile.proofs.Skips.{Looking}
use Rattle.compile.proofs.passes.passes_ending.Given as goal

abbrev pub invariant-loop : goal.invariant-loop
invariant-loop l = Looking (lines_left l.lines) (lines_left l.left) l.count l.counter
