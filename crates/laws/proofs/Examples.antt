-- The examples, by computation.
use Rattle.std.proofs.Common.{[], ◌∷◌, refl}
use Rattle.std.proofs.lemmas.Bool.{false≢true}
use Rattle.program.specs.declared.statement.Statement.{Statement}
use Rattle.laws.specs.Examples.{lending, branching, v_again, ExamplesHold}
use Rattle.laws.proofs.Paths.{logged_tested}

pub examples_hold : ExamplesHold
examples_hold = record {
  n_logged = (logged_tested lending 1).1 refl;
  due_not = λ l. false≢true ((logged_tested lending 0).0 l);
  v_logged = (logged_tested (branching v_again) 0).1 refl;
  v_not = λ l. false≢true ((logged_tested (branching (Statement.Stop ∷ [])) 0).0 l);
  two_paths = refl;
  lent_variables = refl;
  lent_record = refl;
  lent_next = refl;
  sum_wraps = refl;
  difference_wraps = refl;
  quotient_by_0 = λ x. refl;
  remainder_by_0 = λ x. refl;
  quotient = refl;
  remainder = refl;
  and_bits = refl;
  or_bits = refl;
  xor_bits = refl;
}
