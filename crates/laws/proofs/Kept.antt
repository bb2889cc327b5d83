-- What a run alters: the variables that its path writes, and the record by a word at each emit.
use Rattle.std.proofs.Common.{◌≡◌, ℕ, zero, suc, ◌+◌, Bool, true, List, [], ◌∷◌, length, set, refl, ◌∙◌, arith}
use Rattle.std.proofs.lemmas.List.{length-set, length_push, get_or-set_other}
use Rattle.std.proofs.lemmas.Bool.{both_ways, eq-eqb, or_left, or_parts}
use Rattle.program.specs.declared.statement.Index.{Index}
use Rattle.program.specs.declared.statement.Operand.{Operand}
use Rattle.program.specs.declared.statement.Operator.{Operator}
use Rattle.program.specs.declared.statement.Target.{Target}
use Rattle.program.specs.declared.statement.Statement.{Statement}
use Rattle.program.specs.Shapes.{emits}
use Rattle.program.specs.Runs.{Run, value, after, passes}
use Rattle.program.specs.Paths.{writes}
use Rattle.laws.specs.Again.{SameOutside, KeepsUnwritten, EmitsCounted}

pub unaltered : {W : ℕ → Bool} {xs : List ℕ} → SameOutside W xs xs
unaltered = record { size = refl; words = λ v out. refl }

pub set_inside : {W : ℕ → Bool} (xs : List ℕ) (u x : ℕ) → W u ≡ true → SameOutside W xs (set xs u x)
set_inside xs u x inside = record {
  size = length-set xs u x;
  words = λ v out. get_or-set_other xs u v x 0 (λ e. both_ways _ (rw e at out) inside);
}

-- a set writes its variable
pub writes_own : (u : Index 48) (a : Operand) (o : Operator) (b : Operand) → writes (Statement.Set (Target.Variable u) a o b) u.number ≡ true
writes_own u a o b = or_left _ _ (eq-eqb u.number u.number refl)

-- one statement alters what it writes
kept_after : (s : Statement) (σ : Run) → SameOutside (writes s) σ.variables (after s σ).variables
kept_after Statement.Stop σ = unaltered
kept_after (Statement.Set (Target.Variable u) a o b) σ = set_inside σ.variables u.number _ (writes_own u a o b)
kept_after (Statement.Set (Target.Local l) a o b) σ = unaltered
kept_after (Statement.Emit a) σ = unaltered
kept_after (Statement.Skip k t) σ = unaltered
kept_after (Statement.Next t) σ = unaltered
kept_after (Statement.Choose c t u) σ = unaltered

pub keeps_unwritten : KeepsUnwritten
keeps_unwritten k [] σ = unaltered
keeps_unwritten (suc k) (s ∷ rest) σ = keeps_unwritten k rest σ
keeps_unwritten zero (s ∷ rest) σ =
    let here = kept_after s σ in
    let on = keeps_unwritten (passes s σ) rest (after s σ) in
    record {
      size = on.size ∙ here.size;
      words = λ v h. let p = or_parts (writes s v) _ h in on.words v p.1 ∙ here.words v p.0;
    }

pub emitted_after : (s : Statement) (σ : Run) → length (after s σ).emitted ≡ length σ.emitted + emits s
emitted_after Statement.Stop σ = omega arith
emitted_after (Statement.Set (Target.Variable u) a o b) σ = omega arith
emitted_after (Statement.Set (Target.Local l) a o b) σ = omega arith
emitted_after (Statement.Emit a) σ = length_push σ.emitted (value σ a)
emitted_after (Statement.Skip k t) σ = omega arith
emitted_after (Statement.Next t) σ = omega arith
emitted_after (Statement.Choose c t u) σ = omega arith

pub emits_counted : EmitsCounted
emits_counted k [] σ = omega arith
emits_counted (suc k) (s ∷ rest) σ = emits_counted k rest σ
emits_counted zero (s ∷ rest) σ =
    let here = emitted_after s σ in
    let on = emits_counted (passes s σ) rest (after s σ) in
    omega arith
