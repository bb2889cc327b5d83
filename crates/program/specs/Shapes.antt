-- What a statement reads, sets, emits, may choose and may pass over.
use Rattle.std.specs.Prelude.{ℕ, Bool, true, false, List, [], ◌∷◌}
use Rattle.program.specs.declared.statement.Index.{Index}
use Rattle.program.specs.declared.statement.Operand.{Operand}
use Rattle.program.specs.declared.statement.Target.{Target}
use Rattle.program.specs.declared.statement.Statement.{Statement}

-- the operands that it reads
abbrev pub operands : Statement → List Operand
operands Statement.Stop = []
operands (Statement.Set n a o b) = a ∷ b ∷ []
operands (Statement.Emit a) = a ∷ []
operands (Statement.Skip k t) = t.left ∷ t.right ∷ []
operands (Statement.Next t) = []
operands (Statement.Choose c t u) = c.left ∷ c.right ∷ []

-- what it sets
abbrev pub targets : Statement → List Target
targets Statement.Stop = []
targets (Statement.Set n a o b) = n ∷ []
targets (Statement.Emit a) = []
targets (Statement.Skip k t) = []
targets (Statement.Next t) = []
targets (Statement.Choose c t u) = []

-- how many words it adds to the record
abbrev pub emits : Statement → ℕ
emits Statement.Stop = 0
emits (Statement.Set n a o b) = 0
emits (Statement.Emit a) = 1
emits (Statement.Skip k t) = 0
emits (Statement.Next t) = 0
emits (Statement.Choose c t u) = 0

-- how many statements behind it may be passed over: both ways are free at a skip
abbrev pub ways : Statement → List ℕ
ways Statement.Stop = 0 ∷ []
ways (Statement.Set n a o b) = 0 ∷ []
ways (Statement.Emit a) = 0 ∷ []
ways (Statement.Skip k t) = 0 ∷ k.count ∷ []
ways (Statement.Next t) = 0 ∷ []
ways (Statement.Choose c t u) = 0 ∷ []

-- an ending says what comes at the next visit
abbrev pub ending : Statement → Bool
ending Statement.Stop = true
ending (Statement.Set n a o b) = false
ending (Statement.Emit a) = false
ending (Statement.Skip k t) = false
ending (Statement.Next t) = true
ending (Statement.Choose c t u) = true

-- the tasks that it may choose
abbrev pub choices : Statement → List (Index 16)
choices Statement.Stop = []
choices (Statement.Set n a o b) = []
choices (Statement.Emit a) = []
choices (Statement.Skip k t) = []
choices (Statement.Next t) = t ∷ []
choices (Statement.Choose c t u) = t ∷ u ∷ []
