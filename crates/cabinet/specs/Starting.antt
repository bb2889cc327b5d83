-- The attempt that begins.
use Rattle.std.specs.Prelude.{◌≡◌, ℕ, ◌<◌, true, cond, List, [], MatchResult, Result, length, replicate, slice_index}
use Rattle.std.specs.Result.{IfOk}
use Rattle.memory.specs.declared.fault.Fault.{Fault}
use Rattle.memory.specs.declared.interface.Memory.{Ghosts}
use Rattle.program.specs.declared.statement.Index.{Index}
use Rattle.program.specs.Sound.{Source}
use Rattle.laws.specs.Views.{overlay}
use Rattle.facts.specs.declared.set.VariableSet.{VariableSet}
use Rattle.facts.specs.Sets.{empty, has}
use Rattle.layout.specs.Places.{variable_place}
use Rattle.calls.specs.Lawful.{attempt_fits}
use Rattle.calls.specs.Running.{logs, started}
use Rattle.calls.specs.Stages as value
use Rattle.calls.specs.Words.{variables_in}
use Rattle.cabinet.specs.declared.cabinet.Cabinet.{Cabinet}
use Rattle.cabinet.specs.declared.state.Attempt.{Attempt}
use Rattle.cabinet.specs.Cabinets.{Readable, source}
use Rattle.cabinet.specs.Reads.{Reads}
use Rattle.cabinet.specs.States.{attempt_of}

-- The set has the variables that a task logs; one that the program lacks logs none.
pub record IsLogged (p : Source) (t : ℕ) (set : VariableSet) : Type 0 where
  pub told : (v : ℕ) → v < 48 → has set v ≡ logs p t v

-- The attempt fits the program.
pub record Fits (p : Source) (a : value.Attempt) : Type 0 where
  pub fits : attempt_fits p a ≡ true

-- the attempt before its first statement, with these working copies
abbrev pub before_first : ℕ → List ℕ → List ℕ → value.Attempt
before_first t row copies = record { task = t; at = 0; inputs = row; locals = replicate 8 0; emitted = []; copies = copies; set = empty }

module _ {M : Type 0} (memory : Ghosts M) where
  abbrev words : Cabinet M memory → List ℕ
  words c = (memory.seen c.memory).words

  -- a variable's working copy: its word in memory if it is in the set, and otherwise 0
  abbrev pub ReadsCopy : Cabinet M memory → VariableSet → Index 48 → Result ℕ Fault → Type 0
  ReadsCopy c set v r = v.number < length (source c.rules.now).firsts → Reads memory c (cond (has set v.number) (slice_index (words c) (variable_place v.number)) 0) r

  -- the working copies that an attempt at a task starts with
  abbrev pub ReadsCopies : Cabinet M memory → Index 16 → Result (List ℕ) Fault → Type 0
  ReadsCopies c t r = Reads memory c (overlay (logs (source c.rules.now) t.number) (variables_in (source c.rules.now) (words c)) (replicate 48 0)) r

  -- Of a task of the program, it is the attempt that an accepted begin makes.
  abbrev pub Starts : Cabinet M memory → Index 16 → List ℕ → Result Attempt Fault → Type 0
  Starts c t row r =
      t.number < length (source c.rules.now).tasks → memory.lawful c.memory → Readable (source c.rules.now) (memory.seen c.memory)
      → MatchResult r (λ a. attempt_of a ≡ started (source c.rules.now) t.number row (words c)) (λ e. ⊥)

  -- It fits the program, whatever was read.
  abbrev pub StartFits : Cabinet M memory → Index 16 → Result Attempt Fault → Type 0
  StartFits c t r = t.number < length (source c.rules.now).tasks → IfOk r (λ a. attempt_fits (source c.rules.now) (attempt_of a) ≡ true)
