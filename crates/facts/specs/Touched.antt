-- What a touched fact holds: along a path, where paths meet, and over all paths of a task.
use Rattle.std.specs.Prelude.{◌≡◌, ◌↔◌, true, List}
use Rattle.std.specs.List.{list_all, list_any}
use Rattle.program.specs.declared.statement.Index.{Index}
use Rattle.program.specs.declared.statement.Operand.{Operand}
use Rattle.program.specs.declared.statement.Target.{Target}
use Rattle.program.specs.declared.statement.Statement.{Statement}
use Rattle.program.specs.Shapes.{operands, targets}
use Rattle.program.specs.Paths.{paths, operand_is, target_is, written, read_first, Logged, logged_test}
use Rattle.facts.specs.declared.set.VariableSet.{VariableSet}
use Rattle.facts.specs.declared.touched.Touches.{Touches}
use Rattle.facts.specs.Sets.{has, set_of, empty, union, intersection, difference}

abbrev pub untouched : Touches
untouched = record { written = empty; read_first = empty; logged = empty }

-- the variables that the operands read; like the sets that others make, it does not unfold by itself
unfoldable pub read_by : List Operand → VariableSet
read_by operands = set_of (λ v. list_any (operand_is v) operands)

-- the variables among the targets
unfoldable pub written_to : List Target → VariableSet
written_to targets = set_of (λ v. list_any (target_is v) targets)

-- after these variables are read: those that are not written before are read first
abbrev pub note_reads : VariableSet → Touches → Touches
note_reads read t = record t { read_first = union t.read_first (difference read t.written) }

-- after these variables are written: those that are read first are logged
abbrev pub note_writes : VariableSet → Touches → Touches
note_writes written t = record t {
  written = union t.written written;
  logged = union t.logged (intersection t.read_first written);
}

-- after a statement, which reads before it writes
abbrev pub touch : Statement → Touches → Touches
touch s t = note_writes (written_to (targets s)) (note_reads (read_by (operands s)) t)

-- where two paths meet
abbrev pub meet : Touches → Touches → Touches
meet a b = record {
  written = intersection a.written b.written;
  read_first = union a.read_first b.read_first;
  logged = union a.logged b.logged;
}

-- over all paths: written on each; read on some with no earlier write on it; so read and then written on one
abbrev pub touched_over : List Statement → Touches
touched_over task = record {
  written = set_of (λ v. list_all (λ π. written π v) (paths 0 task));
  read_first = set_of (λ v. list_any (λ π. read_first π v) (paths 0 task));
  logged = set_of (logged_test task);
}

-- t is what the task's paths touch, and a variable is in its third set exactly when the write-after-read rule logs it
pub record IsTouched (task : List Statement) (t : Touches) : Type 0 where
  pub sets : t ≡ touched_over task
  pub rule : (v : Index 48) → (has t.logged v.number ≡ true) ↔ Logged task v.number
