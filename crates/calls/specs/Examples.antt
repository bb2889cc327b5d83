-- What the calls come to on the due-date rule.
use Rattle.std.specs.Prelude.{◌≡◌, ℕ, true, drop, ◌+◌, List, [], ◌∷◌, ◌++◌, replicate, length, Some, None, Ok, Err, zero, suc, slice_index}
use Rattle.memory.specs.declared.fault.Fault.TheVariants as fault
use Rattle.memory.specs.Value.{Kind, Value}
use Rattle.program.specs.Sound.{Source}
use Rattle.laws.specs.Examples.{lending}
use Rattle.layout.specs.declared.store.Store.{Store}
use Rattle.layout.specs.Chains.{chain_words}
use Rattle.calls.specs.declared.answer.Progress.{Progress}
use Rattle.calls.specs.declared.due.Due.{Due}
use Rattle.calls.specs.declared.refusal.Why.{Why}
use Rattle.calls.specs.declared.unready.Unready.{Unready}
use Rattle.calls.specs.Calls.{begun}
use Rattle.calls.specs.Opening.{lay_stores, opened, stored_all, unfit, unopened}
use Rattle.calls.specs.Stages.{Held, Stage}
use Rattle.calls.specs.Steps.{stepped}

-- variables due and n, at first 0 and 5
abbrev pub due_dates : Source
due_dates = record { firsts = 0 ∷ 5 ∷ []; locals = 1; tasks = lending ∷ [] }

abbrev pub plain_kind : Kind
plain_kind = record { price = 1; dues = 0; whole = true; layers = 0; lowest = λ charge p. p; buffer = 0 }

-- so many words of 7, lit
abbrev pub fresh : ℕ → ℕ → Value
fresh n charge = record { words = replicate n 7; charge = charge; lit = true; doubt = None; kind = plain_kind }

-- laid, with so much charge left
abbrev pub laid : ℕ → Value
laid charge = stored_all (fresh 57 (16 + charge)) (lay_stores due_dates)

-- opened, and begun with the day 100
abbrev pub begun_with : ℕ → Held
begun_with charge = (begun (opened due_dates (laid charge)) 0 (100 ∷ replicate 7 0)).left

abbrev pub steps : ℕ → Held → Held
steps zero h = h
steps (suc n) h = steps n (stepped h).left

abbrev pub entry : ℕ → ℕ → Store
entry place word = record { place = place; word = word }

-- visit number 1, task 0 next, a record of one word, and n
abbrev pub six : List Store
six = entry 1 1 ∷ entry 2 0 ∷ entry 3 0 ∷ entry 4 1 ∷ entry 5 114 ∷ entry 14 6 ∷ []

abbrev pub cut_at : ℕ → Why
cut_at place = Why.Memory (fault.Cut (record { place = place; layers = 0 }))

pub record ExamplesHold : Type 0 where
  -- 57 words suffice, and 56 do not
  pub fits_57 : unfit due_dates (fresh 57 0) ≡ None
  pub short_56 : unfit due_dates (fresh 56 0) ≡ Some Unready.Short
  pub sixteen_stores : length (lay_stores due_dates) ≡ 16
  pub laid_words : (laid 0).words ≡ replicate 13 0 ++ 0 ∷ 5 ∷ replicate 42 7
  -- the first entry's words, and the last's
  pub first_entry : chain_words 15 (entry 1 1 ∷ entry 2 0 ∷ []) ≡ 18 ∷ 1 ∷ 1 ∷ 0 ∷ 2 ∷ 0 ∷ []
  -- no task is 7; a log may begin at place 15 alone
  pub no_task : unopened due_dates (fresh 57 0) ≡ Some Unready.NextTask
  -- five steps run the task, of which one stores; the entries are then to be logged
  pub stored_directly : slice_index (steps 2 (begun_with 1)).memory.words 13 ≡ 114
  pub not_stored : slice_index (steps 3 (begun_with 1)).memory.words 14 ≡ 5
  pub run : (steps 5 (begun_with 1)).stage ≡ Stage.Logging six 0
  -- eighteen more log them, and the last stands at place 30
  pub logged : drop 30 (steps 23 (begun_with 19)).memory.words ≡ 0 ∷ 14 ∷ 6 ∷ replicate 24 7
  pub committed : (steps 24 (begun_with 20)).stage ≡ Stage.Applying (Due.Entry 15)
  -- the seventh step of applying settles visit 1; 27 stores suffice, and 26 do not
  pub settles : (stepped (steps 30 (begun_with 27))).answer ≡ Ok (Progress.Settled 1)
  pub page : (steps 31 (begun_with 27)).memory.words ≡ 0 ∷ 1 ∷ 0 ∷ 0 ∷ 1 ∷ 114 ∷ replicate 7 0 ++ 114 ∷ 6 ∷ drop 15 (steps 23 (begun_with 27)).memory.words
  pub cut : (stepped (steps 30 (begun_with 26))).answer ≡ Err (cut_at 0)
  -- a step at rest, and a begin while a visit is under way
  pub idle : (stepped (opened due_dates (laid 0))).answer ≡ Err Why.Idle
  pub busy : (begun (begun_with 0) 0 []).answer ≡ Err Why.Busy
  pub not_taken : (begun (opened due_dates (laid 0)) 1 []).answer ≡ Err Why.NotTaken
