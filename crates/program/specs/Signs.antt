-- How operators and comparisons are written.
use Rattle.std.specs.Prelude.{ℕ, List, codes}
use Rattle.program.specs.declared.statement.Comparison.{Comparison}
use Rattle.program.specs.declared.statement.Operator.{Operator}

abbrev pub operator_sign : Operator → List ℕ
operator_sign Operator.Plus = codes "+"
operator_sign Operator.Minus = codes "-"
operator_sign Operator.And = codes "&"
operator_sign Operator.Or = codes "|"
operator_sign Operator.Xor = codes "^"
operator_sign Operator.Quotient = codes "/"
operator_sign Operator.Remainder = codes "%"

abbrev pub comparison_sign : Comparison → List ℕ
comparison_sign Comparison.Equal = codes "="
comparison_sign Comparison.Less = codes "<"
