-- The names that lines declare, and what a name stands for.
use Rattle.std.specs.Prelude.{ℕ, ◌<◌, ◌≤◌, Bool, ◌||◌, List, [], map, Option, Some, None}
use Rattle.std.specs.Borrow.{Bor}
use Rattle.std.proofs.Math.Decide.{dec_le, dec_lt}
use Rattle.std.specs.List.{filter_map, list_any, position}
use Rattle.std.specs.Option.{option_and_then}
use Rattle.std.specs.Str.{bytes_eq}
use Rattle.words.specs.Lists.{items}
use Rattle.program.specs.declared.statement.Index.{Index}
use Rattle.program.specs.declared.statement.Reach.{Reach}
use Rattle.text.specs.Tokens.{text_of}
use Rattle.forms.specs.Forms.{Line, variable, local, task, statement}
use Rattle.grammar.specs.declared.names.Names.{Names}

-- the names of the variables, of the locals and of the tasks, each in the order of their declarations
pub record Declared : Type 0 where
  pub variables : List (List ℕ)
  pub locals : List (List ℕ)
  pub tasks : List (List ℕ)

abbrev pub variable_name : Line → Option (List ℕ)
variable_name (variable n v) = Some (text_of n)
variable_name (local n) = None
variable_name (task n) = None
variable_name (statement s) = None

abbrev pub local_name : Line → Option (List ℕ)
local_name (variable n v) = None
local_name (local n) = Some (text_of n)
local_name (task n) = None
local_name (statement s) = None

abbrev pub task_name : Line → Option (List ℕ)
task_name (variable n v) = None
task_name (local n) = None
task_name (task n) = Some (text_of n)
task_name (statement s) = None

-- what lines declare
abbrev pub names_of : List Line → Declared
names_of lines = record {
  variables = filter_map variable_name lines;
  locals = filter_map local_name lines;
  tasks = filter_map task_name lines;
}

-- no names
abbrev pub nothing : Declared
nothing = record { variables = []; locals = []; tasks = [] }

-- the name is one of these
unfoldable pub is_among : List (List ℕ) → List ℕ → Bool
is_among names word = list_any (λ name. bytes_eq name word) names

-- Variables, locals and tasks share one name space.
abbrev pub is_declared : Declared → List ℕ → Bool
is_declared d word = is_among d.variables word || (is_among d.locals word || is_among d.tasks word)

-- number n of at most N, if there are so many
abbrev pub index_if : {N n : ℕ} → Dec (n < N) → Option (Index N)
index_if {n} (yes known) = Some (record { number = n; known = known })
index_if (no _none) = None

unfoldable pub index_of : {N : ℕ} → ℕ → Option (Index N)
index_of {N} n = index_if (dec_lt n N)

-- the reach of a skip over so many statements, if there is one
abbrev pub reach_if : {n : ℕ} → Dec (0 < n) → Dec (n ≤ 15) → Option Reach
reach_if {n} (yes some) (yes near) = Some (record { count = n; near = (some, near) })
reach_if (yes _some) (no _far) = None
reach_if (no _none) near = None

unfoldable pub reach_with : ℕ → Option Reach
reach_with n = reach_if (dec_lt 0 n) (dec_le n 15)

-- the first place at which the word stands among these names
unfoldable pub place_among : List (List ℕ) → List ℕ → Option ℕ
place_among names word = position (λ name. bytes_eq name word) names

-- its number
abbrev pub index_in : {N : ℕ} → List (List ℕ) → List ℕ → Option (Index N)
index_in names word = option_and_then index_of (place_among names word)

-- what the names of the code say
abbrev pub bytes_of : List (Bor (List ℕ)) → List (List ℕ)
bytes_of names = map (λ name. name.now) names

abbrev pub declared : Names → Declared
declared names = record {
  variables = bytes_of (items names.variables);
  locals = bytes_of (items names.locals);
  tasks = bytes_of (items names.tasks);
}
