-- When a lawful cabinet refuses begin and step, by the tables of refusals, and what a step stores.
use Rattle.std.specs.Prelude.{◌≡◌, ◌⊎◌, ℕ, ◌<◌, Bool, true, false, not, cond, ◌||◌, List, length, None, Some, Ok, Err, Option, Result, ◌==◌, slice_index}
use Rattle.memory.specs.declared.fault.Cut.{Cut}
use Rattle.memory.specs.declared.fault.Fault.TheVariants as fault
use Rattle.memory.specs.Value.{Limits, cut_at, cut_short, written}
use Rattle.layout.specs.declared.store.Store.{Store}
use Rattle.layout.specs.Places.{next_place}
use Rattle.calls.specs.declared.refusal.Why.{Why}
use Rattle.calls.specs.Calls.{begun}
use Rattle.calls.specs.Lawful.{Lawful}
use Rattle.calls.specs.Refusals.{number_of}
use Rattle.calls.specs.Stages.{Held, Stage}
use Rattle.calls.specs.Steps.{moved, stepped}
use Rattle.calls.specs.Words.{number_in}

abbrev pub is_dark : Stage → Bool
is_dark Stage.Settled = false
is_dark Stage.Rest = false
is_dark (Stage.Running a) = false
is_dark (Stage.Logging es k) = false
is_dark (Stage.Applying due) = false
is_dark Stage.Dark = true

-- settled or at rest
abbrev pub is_idle : Stage → Bool
is_idle Stage.Settled = true
is_idle Stage.Rest = true
is_idle (Stage.Running a) = false
is_idle (Stage.Logging es k) = false
is_idle (Stage.Applying due) = false
is_idle Stage.Dark = false

-- running, logging or applying
abbrev pub is_under_way : Stage → Bool
is_under_way stage = not (is_dark stage || is_idle stage)

-- STEP

-- The step's store is cut at its place in the memory, as the charge is below the price. That leaves the memory dark, without charge and with
-- this place in doubt, and the cabinet dark.
pub record StepCut (h : Held) (cut : Cut) (left : Held) : Type 0 where
  pub under_way : is_under_way h.stage ≡ true
  pub low : h.memory.charge < h.memory.kind.price
  pub store : Store
  pub inside : store.place < length h.memory.words
  pub carries : cut ≡ cut_at h.memory.kind h.memory.charge store.place
  pub leaves : left ≡ moved h (cut_short h.memory store.place store.word) Stage.Dark

-- When a step is refused and what it leaves, by the reason told: 3 and 35 alter nothing, 5 is a cut, and no other reason is told.
abbrev pub StepRefused : Held → Why → Held → Type 0
StepRefused h (Why.Memory fault.Dark) left = (is_dark h.stage ≡ true) × (left ≡ h)
StepRefused h Why.Idle left = (is_idle h.stage ≡ true) × (left ≡ h)
StepRefused h (Why.Memory (fault.Cut cut)) left = StepCut h cut left
StepRefused h _ left = ⊥

-- A lawful cabinet refuses a step for these reasons alone: the place of a store that is due is always inside the memory, and the memory lit.
abbrev pub StepRefusals : Type 0
StepRefusals = (h : Held) → Lawful h → (why : Why) → (stepped h).answer ≡ Err why → StepRefused h why (stepped h).left

-- A step of any cabinet makes one store at most, done or cut, and alters nothing else of the memory.
abbrev pub StepStoresOnce : Type 0
StepStoresOnce = (h : Held) → ((stepped h).left.memory ≡ h.memory) ⊎ ((s : Store) × ((stepped h).left.memory ≡ written h.memory s.place s.word))

-- BEGIN

-- the number that is told where a call is refused
abbrev pub number_told : {A : Type 0} → Result A Why → Option ℕ
number_told (Ok _) = None
number_told (Err why) = Some (number_of why)

-- The refusals of begin in their order: the first that applies is told.
abbrev pub begin_refusal : Held → ℕ → List ℕ → Option ℕ
begin_refusal h taken row =
    cond (is_dark h.stage) (Some 3)
    (cond (not (is_idle h.stage)) (Some 30)
    (cond (slice_index h.memory.words next_place == 16) (Some 31)
    (cond (not (taken == number_in h.memory.words)) (Some 32)
    (cond (not (length row == 8)) (Some 33)
    (cond (number_in h.memory.words == 4294967295) (Some 34) None)))))

-- A lawful cabinet refuses a begin exactly so, and accepts it otherwise.
abbrev pub BeginRefusals : Type 0
BeginRefusals = (h : Held) → Lawful h → Limits h.memory → (taken : ℕ) (row : List ℕ) → number_told (begun h taken row).answer ≡ begin_refusal h taken row

-- Begin on any cabinet stores nothing, and where it is refused nothing alters.
abbrev pub BeginStoresNothing : Type 0
BeginStoresNothing = (h : Held) (taken : ℕ) (row : List ℕ) → ((begun h taken row).left.memory ≡ h.memory) × ((why : Why) → (begun h taken row).answer ≡ Err why → (begun h taken row).left ≡ h)
