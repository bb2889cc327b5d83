-- `Rules::new`: what its loop keeps.
use Rattle.std.proofs.Common.{◌≡◌, map, take}
use Rattle.words.specs.Lists.{items}
use Rattle.program.specs.Programs.{program_source}
use Rattle.rules.specs.Known.{task_facts}
use Rattle.rules.proofs.Making.{AreKept}
use Rattle.rules.proofs.rules.Rules.new.Given as goal

abbrev pub invariant-loop-number : goal.invariant-loop-number
invariant-loop-number l = record {
  known : items l.facts ≡ map task_facts (take l.number (program_source l.program).tasks);
  kept : AreKept l.number l.fn.touched l.touched l.fn.most l.most;
}
