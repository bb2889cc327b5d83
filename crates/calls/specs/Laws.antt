-- Laws of the calls: what a lawful cabinet keeps, and how a visit in work is one of the plain machine.
use Rattle.std.specs.Prelude.{◌≡◌, ℕ, ◌+◌, ◌≤◌, true, false, List, [], ◌∷◌, length, drop, None, Some, Option, slice_index, slice_set}
use Rattle.memory.specs.Value.{Limits}
use Rattle.program.specs.declared.statement.Next.{Next}
use Rattle.program.specs.Runs.{after, next_word, passes}
use Rattle.program.specs.Shapes.{ending}
use Rattle.program.specs.Sound.{Source, sound, task_of}
use Rattle.laws.specs.Views.{overlay}
use Rattle.plain.specs.Plain.{begun}
use Rattle.plain.specs.Steps.{Standing, ends, starting, stepped}
use Rattle.facts.specs.Sets.{has}
use Rattle.layout.specs.declared.store.Store.{Store}
use Rattle.layout.specs.Places.{head_place, least_length, log_place, next_place}
use Rattle.calls.specs.Calls.{Event, Took}
use Rattle.calls.specs.Lawful.{Lawful, attempt_fits}
use Rattle.calls.specs.Running.{coming, entries, following, started, view}
use Rattle.calls.specs.Stages.{Attempt, Held, Stage}
use Rattle.calls.specs.Steps.{Turn, running_turn}
use Rattle.calls.specs.Words.{next_in, number_in, record_in, variables_in}

-- A lawful cabinet stays lawful under every call.
abbrev pub StaysLawful : Type 0
StaysLawful = (h : Held) (e : Event) (h′ : Held) → Lawful h → Limits h.memory → Took h e h′ → Lawful h′

-- the words after a store that is made, or after none
abbrev pub words_with : Option Store → List ℕ → List ℕ
words_with None ws = ws
words_with (Some s) ws = slice_set ws s.place s.word

-- An attempt, over the words ws, as a visit of the plain machine: it has come to the same statement of its task, with what it sees.
abbrev pub as_plain : Source → Attempt → List ℕ → Standing
as_plain p a ws = record { task = task_of p a.task; at = a.at; run = view p a ws }

-- The turn t by a statement that is no ending.
pub record GoesPlainly (p : Source) (a : Attempt) (ws : List ℕ) (t : Turn) : Type 0 where
  -- it runs on
  pub next : Attempt
  pub running : t.then ≡ Stage.Running next
  -- the position is the one behind the statement, or where a skip leads
  pub task : next.task ≡ a.task
  pub at : next.at ≡ a.at + 1 + passes (coming p a) (view p a ws)
  -- what is seen then, in the words that the store leaves, is what the statement makes of what was seen before
  pub sees : view p next (words_with t.store ws) ≡ after (coming p a) (view p a ws)
  -- all of which is one step of the plain machine
  pub plain : as_plain p next (words_with t.store ws) ≡ stepped (as_plain p a ws)

-- The turn t by an ending.
pub record EndsPlainly (p : Source) (a : Attempt) (ws : List ℕ) (t : Turn) : Type 0 where
  -- nothing is stored, and the visit is to be logged with the next task that the ending chooses
  pub none : t.store ≡ None
  pub logging : t.then ≡ Stage.Logging (entries (number_in ws) (after (coming p a) (view p a ws)).chosen a) 0
  -- the ending alters nothing else
  pub emitted : (after (coming p a) (view p a ws)).emitted ≡ a.emitted
  pub variables : (after (coming p a) (view p a ws)).variables ≡ (view p a ws).variables
  pub locals : (after (coming p a) (view p a ws)).locals ≡ a.locals
  -- and the visit of the plain machine ends with it
  pub over : ends (as_plain p a ws) ≡ after (coming p a) (view p a ws)

-- A running step whose store is made is the plain machine's step on what the attempt sees.
pub record RunningIsPlain : Type 0 where
  pub goes :
      (p : Source) (a : Attempt) (ws : List ℕ) → sound p ≡ true → attempt_fits p a ≡ true → least_length (length p.firsts) ≤ length ws
      → ending (coming p a) ≡ false → GoesPlainly p a ws (running_turn p a ws)
  pub ends :
      (p : Source) (a : Attempt) (ws : List ℕ) → sound p ≡ true → attempt_fits p a ≡ true → least_length (length p.firsts) ≤ length ws
      → ending (coming p a) ≡ true → EndsPlainly p a ws (running_turn p a ws)

-- What an attempt sees that begins is what a visit of the plain machine begins with, before its first statement.
pub record ViewAtStart : Type 0 where
  pub sees : (p : Source) (t : ℕ) (row ws : List ℕ) → sound p ≡ true → view p (started p t row ws) ws ≡ begun row (variables_in p ws)
  pub plain : (p : Source) (t : ℕ) (row ws : List ℕ) → sound p ≡ true → as_plain p (started p t row ws) ws ≡ starting (task_of p t) row (variables_in p ws)

-- the words after all these stores, one after the other
abbrev pub all_stored : List Store → List ℕ → List ℕ
all_stored [] ws = ws
all_stored (s ∷ more) ws = all_stored more (slice_set ws s.place s.word)

-- What the words say once the entries of the attempt a are stored at their places, where they were ws before.
pub record TellsAttempt (p : Source) (number : ℕ) (next : Next) (a : Attempt) (ws left : List ℕ) : Type 0 where
  -- the visit number that follows, what comes next, and the record
  pub visit : number_in left ≡ following number
  pub word : slice_index left next_place ≡ next_word next
  pub comes : next_in left ≡ next
  pub emitted : record_in left ≡ a.emitted
  -- a variable of the set is its working copy, and any other is as before
  pub variables : variables_in p left ≡ overlay (has a.set) a.copies (variables_in p ws)
  -- so are the head, and the log behind the page
  pub head : slice_index left head_place ≡ slice_index ws head_place
  pub log : drop (log_place (length p.firsts)) left ≡ drop (log_place (length p.firsts)) ws

-- The entries of a commit, at their places, tell the attempt that is committed.
pub record EntriesTell : Type 0 where
  pub told :
      (p : Source) (a : Attempt) (number : ℕ) (next : Next) (ws : List ℕ) → sound p ≡ true → attempt_fits p a ≡ true → least_length (length p.firsts) ≤ length ws
      → TellsAttempt p number next a ws (all_stored (entries number next a) ws)
