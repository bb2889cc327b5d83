-- Names: those of so many variables are written.
use Rattle.std.proofs.Common.{take}
use Rattle.std.specs.Fmt.{HasWritten, IsPlainFormatter}
use Rattle.facts.specs.Sets.{has}
use Rattle.grammar.specs.Names.{bytes_of}
use Rattle.fit.specs.Printed.{names_in}
use Rattle.fit.proofs.acceptance.NamesInDisplay.fmt.Given as goal

abbrev pub invariant-loop-number : goal.invariant-loop-number
invariant-loop-number g l = IsPlainFormatter l.initial.f → HasWritten g.W.Write.write_str_gives l.initial.f (names_in (has l.self.set) 0 (bytes_of (take l.number l.self.variables.now))) l.f
