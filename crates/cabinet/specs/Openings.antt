-- A memory is looked into, and becomes a cabinet.
use Rattle.std.specs.Prelude.{◌≡◌, ℕ, ◌+◌, ◌<◌, Bool, true, not, cond, ◌==◌, length, slice_index, None, Some, Ok, Err, Result}
use Rattle.std.specs.Result.{result_err}
use Rattle.memory.specs.declared.fault.Fault.{Fault}
use Rattle.memory.specs.declared.interface.Memory.{Ghosts}
use Rattle.program.specs.declared.check.Scope.{Scope}
use Rattle.program.specs.Sound.{Source, scope_of}
use Rattle.rules.specs.declared.rules.Rules.{Rules}
use Rattle.layout.specs.Chains.{astray, entry_at, entry_sound, log_astray, most_entries}
use Rattle.layout.specs.Places.{head_place, log_place}
use Rattle.calls.specs.declared.unready.Unready.{Unready}
use Rattle.calls.specs.Opening.{opened, unopened}
use Rattle.cabinet.specs.declared.cabinet.Cabinet.{Cabinet}
use Rattle.cabinet.specs.declared.cabinet.chain_walk.Entry.{Entry}
use Rattle.cabinet.specs.declared.cabinet.chain_walk.Look.{Look}
use Rattle.cabinet.specs.declared.cabinet.opening.Found.{Found}
use Rattle.cabinet.specs.declared.cabinet.opening.Unopened.{Unopened}
use Rattle.cabinet.specs.Cabinets.{IsLawful, Readable, held, source}
use Rattle.cabinet.specs.States.{stage_of}

-- what is found at an entry that stands at e behind one for a place `before`
unfoldable pub look_of : Scope → ℕ → ℕ → Entry → Look
look_of n e before entry =
    cond (not (entry_sound n before entry.store)) Look.Astray
    (cond (entry.next == 0) Look.Last
    (cond (entry.next == e + 3) (Look.On entry.store.place) Look.Astray))

module _ {M : Type 0} (memory : Ghosts M) where
  -- Of a lawful memory that can be read, this is what is read.
  abbrev pub ReadsIn : {A : Type 0} → Source → M → A → Result A Fault → Type 0
  ReadsIn p m a r = memory.lawful m → Readable p (memory.seen m) → r ≡ Ok a

  -- the three words of the entry at e, if they are inside
  abbrev pub EntryRead : M → ℕ → Result Entry Fault → Type 0
  EntryRead m e r = memory.lawful m → (memory.seen m).lit ≡ true → e + 2 < length (memory.seen m).words → r ≡ Ok (record { next = slice_index (memory.seen m).words e; store = entry_at (memory.seen m).words e })

  -- whether the chain in the log is astray
  abbrev pub ChainWalked : Source → M → Result Bool Fault → Type 0
  ChainWalked p m r = ReadsIn p m (astray (most_entries (length p.firsts)) (scope_of p) (memory.seen m).words (log_place (length p.firsts)) head_place) r

  -- whether the log is astray
  abbrev pub LogWalked : Source → M → Result Bool Fault → Type 0
  LogWalked p m r = ReadsIn p m (log_astray (scope_of p) (memory.seen m).words) r

  -- A lawful memory is refused exactly when it is not to be opened, and for that reason.
  abbrev pub Checks : Source → M → Result (Unit {0}) Unready → Type 0
  Checks p m r = memory.lawful m → result_err r ≡ unopened p (memory.seen m)

  -- A lawful memory is opened, and this is the state of the cabinet over it and the task last read. It does not unfold by itself: its
  -- tests would be searched wherever it stands.
  unfoldable pub IsFound : Source → M → Found → Type 0
  IsFound p m found = memory.lawful m → (unopened p (memory.seen m) ≡ None) × (stage_of found.state ≡ (opened p (memory.seen m)).stage) × (found.task ≡ (opened p (memory.seen m)).task)

  -- This is found, or a lawful memory is refused for its reason.
  abbrev pub Finds : Source → M → Result Found Unready → Type 0
  Finds p m (Ok found) = IsFound p m found
  Finds p m (Err why) = memory.lawful m → unopened p (memory.seen m) ≡ Some why

  -- Opening the memory for the program comes to this cabinet, and it is lawful.
  pub record IsOpened (p : Source) (m : M) (c : Cabinet M memory) : Type 0 where
    pub none : unopened p (memory.seen m) ≡ None
    pub held : held memory c ≡ opened p (memory.seen m)
    pub lawful : IsLawful memory c

  -- It does if this is what is found in the memory, and the memory is lawful.
  unfoldable pub IsOver : Source → M → Found → Cabinet M memory → Type 0
  IsOver p m found c = IsFound p m found → memory.lawful m → IsOpened p m c

  -- OPEN. Refused or not, the memory is what it was.
  abbrev pub Opens : Rules → M → Result (Cabinet M memory) (Unopened M) → Type 0
  Opens rules m (Ok c) = (c.rules.now ≡ rules) × (c.memory ≡ m) × (memory.lawful m → IsOpened (source rules) m c)
  Opens rules m (Err e) = (e.memory ≡ m) × (memory.lawful m → unopened (source rules) (memory.seen m) ≡ Some e.why)
