-- A lawful cabinet: whatever its memory may hold is well formed for its program, and its state fits it.
use Rattle.std.specs.Prelude.{◌≡◌, ℕ, ◌+◌, ◌*◌, ◌<◌, ◌≤◌, Bool, true, false, not, ◌&&◌, ◌||◌, List, length, drop, ◌==◌, nat_lt, nat_le, slice_index}
use Rattle.std.specs.List.{list_all}
use Rattle.memory.specs.Value.{MayHold, Value}
use Rattle.program.specs.Paths.{emitted_on, paths}
use Rattle.program.specs.Sound.{Source, scope_of, sound, task_of}
use Rattle.facts.specs.Sets.{has, variables}
use Rattle.layout.specs.declared.store.Store.{Store}
use Rattle.layout.specs.Chains.{HasChain, StandFrom, chain_sound, chain_words, next_known}
use Rattle.layout.specs.Laws.{HasLog}
use Rattle.layout.specs.Places.{head_place, least_length, length_place, next_place}
use Rattle.calls.specs.declared.due.Due.{Due}
use Rattle.calls.specs.Stages.{Attempt, Held, Stage}
use Rattle.calls.specs.Steps.{log_of}

-- the record has room for whatever the rest of the task emits, on any path
abbrev pub has_room : Source → Attempt → Bool
has_room p a = list_all (λ π. nat_le (length a.emitted + emitted_on π) 8) (paths 0 (drop a.at (task_of p a.task)))

-- An attempt runs a task of the program, stands at one of its statements, and has set only variables of the program.
abbrev pub attempt_fits : Source → Attempt → Bool
attempt_fits p a =
    ((nat_lt a.task (length p.tasks) && nat_lt a.at (length (task_of p a.task))) && (has_room p a && list_all (λ v. not (has a.set v) || nat_lt v (length p.firsts)) variables))
    && ((length a.inputs == 8 && length a.locals == 8) && length a.copies == 48)

-- what a state must be for a program
abbrev pub stage_fits : Source → Stage → Bool
stage_fits p Stage.Settled = true
stage_fits p Stage.Rest = true
stage_fits p (Stage.Running a) = attempt_fits p a
stage_fits p (Stage.Logging es k) = (nat_lt 0 (length es) && chain_sound (scope_of p) head_place es) && nat_le k (length (chain_words (log_of p) es))
stage_fits p (Stage.Applying due) = true
stage_fits p Stage.Dark = true

-- The words are well formed for the program.
pub record WellFormed (p : Source) (ws : List ℕ) : Type 0 where
  pub next : next_known (length p.tasks) (slice_index ws next_place) ≡ true
  pub few : slice_index ws length_place ≤ 8
  pub log : HasLog (scope_of p) ws

-- what is due in the chain of these entries: the one behind the first n, or the head behind them all
abbrev pub DueIn : Source → List Store → Due → Type 0
DueIn p es (Due.Entry e) = (n : ℕ) × (n < length es) × (e ≡ log_of p + 3 * n)
DueIn p es Due.Head = Unit {0}

-- What a state says of the memory. Only applying finds a commit under way.
abbrev pub MemoryFits : Source → Value → Stage → Type 0
MemoryFits p v Stage.Settled = (v.lit ≡ true) × (slice_index v.words head_place ≡ 0)
MemoryFits p v Stage.Rest = (v.lit ≡ true) × (slice_index v.words head_place ≡ 0)
MemoryFits p v (Stage.Running a) = (v.lit ≡ true) × (slice_index v.words head_place ≡ 0)
MemoryFits p v (Stage.Logging es k) = (v.lit ≡ true) × (slice_index v.words head_place ≡ 0) × StandFrom v.words (log_of p) (chain_words (log_of p) es) k
MemoryFits p v (Stage.Applying due) = (v.lit ≡ true) × (slice_index v.words head_place ≡ log_of p) × (es : List Store) × HasChain (scope_of p) v.words es × DueIn p es due
MemoryFits p v Stage.Dark = v.lit ≡ false

pub record Lawful (h : Held) : Type 0 where
  pub program : sound h.program ≡ true
  pub whole : h.memory.kind.whole ≡ true
  pub long : least_length (length h.program.firsts) ≤ length h.memory.words
  pub sound_words : (found : List ℕ) → MayHold h.memory found → WellFormed h.program found
  pub fits : stage_fits h.program h.stage ≡ true
  pub agrees : MemoryFits h.program h.memory h.stage
