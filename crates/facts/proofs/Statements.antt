-- The variables that operands read and that targets are, as sets.
use Rattle.std.proofs.Common.{◌≡◌, ℕ, false, ◌||◌, [], ◌∷◌, eqb, sym, refl, ap, ◌∙◌}
use Rattle.std.specs.Cmp.{both_ways}
use Rattle.std.specs.List.{list_any}
use Rattle.std.proofs.lemmas.Bool.{eqb-true, eq-eqb}
use Rattle.std.proofs.Math.Bool.{or-false}
use Rattle.program.specs.declared.statement.Index.{Index}
use Rattle.program.specs.declared.statement.Operand.{Operand}
use Rattle.program.specs.declared.statement.Target.{Target}
use Rattle.program.specs.Paths.{operand_is, target_is}
use Rattle.facts.specs.Sets.{has, empty, single, union}
use Rattle.facts.specs.Touched.{read_by, written_to}
use Rattle.facts.proofs.Sets.{has_of, same_sets}

equal_swapped : (u v : ℕ) → (eqb u v || false) ≡ eqb v u
equal_swapped u v = or-false (eqb u v) ∙ both_ways (eqb u v) (eqb v u) (λ e. eq-eqb v u (sym (eqb-true u v e))) (λ e. eq-eqb u v (sym (eqb-true v u e)))

pub one_read : (u : Index 48) → read_by (Operand.Variable u ∷ []) ≡ single u.number
unfolding read_by single
one_read u = same_sets (λ v. list_any (operand_is v) (Operand.Variable u ∷ [])) (λ v. eqb v u.number) (λ v l. equal_swapped u.number v)

pub number_read : (n : ℕ) → read_by (Operand.Number n ∷ []) ≡ empty
unfolding read_by empty
number_read n = refl

pub local_read : (l : Index 8) → read_by (Operand.Local l ∷ []) ≡ empty
unfolding read_by empty
local_read l = refl

pub input_read : (i : Index 8) → read_by (Operand.Input i ∷ []) ≡ empty
unfolding read_by empty
input_read i = refl

pub none_read : read_by [] ≡ empty
unfolding read_by empty
none_read = refl

pub ruleset reading = (none_read, one_read, number_read, local_read, input_read)

pub one_written : (u : Index 48) → written_to (Target.Variable u ∷ []) ≡ single u.number
unfolding written_to single
one_written u = same_sets (λ v. list_any (target_is v) (Target.Variable u ∷ [])) (λ v. eqb v u.number) (λ v l. equal_swapped u.number v)

pub local_written : (l : Index 8) → written_to (Target.Local l ∷ []) ≡ empty
unfolding written_to empty
local_written l = refl

pub none_written : written_to [] ≡ empty
unfolding written_to empty
none_written = refl

pub ruleset writing = (none_written, one_written, local_written)

pub both_read : (a b : Operand) → union (read_by (a ∷ [])) (read_by (b ∷ [])) ≡ read_by (a ∷ b ∷ [])
unfolding read_by union
both_read a b =
    same_sets (λ v. has (read_by (a ∷ [])) v || has (read_by (b ∷ [])) v) (λ v. list_any (operand_is v) (a ∷ b ∷ []))
    (λ v l.
    ap (λ x. x || has (read_by (b ∷ [])) v) (has_of (λ v. list_any (operand_is v) (a ∷ [])) v l ∙ or-false (operand_is v a))
    ∙ ap (λ x. operand_is v a || x) (has_of (λ v. list_any (operand_is v) (b ∷ [])) v l))
