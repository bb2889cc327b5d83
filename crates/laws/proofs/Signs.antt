-- From a sign's byte back to the operator, or the comparison.
use Rattle.std.proofs.Common.{◌≡◌, ℕ, List, cond, eqb, get_or, refl, sym, ap, ◌∙◌}
use Rattle.program.specs.declared.statement.Comparison.{Comparison}
use Rattle.program.specs.declared.statement.Operator.{Operator}
use Rattle.program.specs.Signs.{comparison_sign, operator_sign}
use Rattle.laws.specs.Signs.{SignsTell}

abbrev operator_of : List ℕ → Operator
operator_of sign =
    let byte = get_or sign 0 0 in
    cond (eqb byte 43) Operator.Plus
    (cond (eqb byte 45) Operator.Minus
    (cond (eqb byte 38) Operator.And
    (cond (eqb byte 124) Operator.Or
    (cond (eqb byte 94) Operator.Xor
    (cond (eqb byte 47) Operator.Quotient Operator.Remainder)))))

operator_again : (o : Operator) → operator_of (operator_sign o) ≡ o
operator_again Operator.Plus = refl
operator_again Operator.Minus = refl
operator_again Operator.And = refl
operator_again Operator.Or = refl
operator_again Operator.Xor = refl
operator_again Operator.Quotient = refl
operator_again Operator.Remainder = refl

abbrev comparison_of : List ℕ → Comparison
comparison_of sign = cond (eqb (get_or sign 0 0) 61) Comparison.Equal Comparison.Less

comparison_again : (c : Comparison) → comparison_of (comparison_sign c) ≡ c
comparison_again Comparison.Equal = refl
comparison_again Comparison.Less = refl

pub signs_tell : SignsTell
signs_tell = record {
  operators = λ o q e. sym (operator_again o) ∙ ap operator_of e ∙ operator_again q;
  comparisons = λ c d e. sym (comparison_again c) ∙ ap comparison_of e ∙ comparison_again d;
}
