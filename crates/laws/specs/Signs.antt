-- What the signs of operators and comparisons tell a reader.
use Rattle.std.specs.Prelude.{◌≡◌}
use Rattle.program.specs.declared.statement.Comparison.{Comparison}
use Rattle.program.specs.declared.statement.Operator.{Operator}
use Rattle.program.specs.Signs.{comparison_sign, operator_sign}

-- A sign tells its operator, or its comparison: no two are written alike.
pub record SignsTell : Type 0 where
  pub operators : (o q : Operator) → operator_sign o ≡ operator_sign q → o ≡ q
  pub comparisons : (c d : Comparison) → comparison_sign c ≡ comparison_sign d → c ≡ d
