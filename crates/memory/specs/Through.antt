-- A word stored through a cut.
use Rattle.std.specs.Prelude.{◌≡◌, ℕ, true, ◌≢◌, ◌⊎◌, Some, None, Ok, Err, Option, Result, IsSome, slice_index}
use Rattle.memory.specs.declared.fault.Cut.{Cut}
use Rattle.memory.specs.declared.fault.Fault.{Fault}
use Rattle.memory.specs.declared.through.Stood.{Stood}
use Rattle.memory.specs.Faults.{told}
use Rattle.memory.specs.Value.{Relights, Relit, Value, cut_short, write_answer, written}

-- the cut that a store met
abbrev pub cut_of : Result (Unit {0}) Fault → Option Cut
cut_of (Ok u) = None
cut_of (Err e) = (told e).carried

-- the memory after the store, and after the relight if it was cut
abbrev pub AfterStore : Value → ℕ → ℕ → ℕ → Option Cut → Value → Type 0
AfterStore v p w charge None after = after ≡ written v p w
AfterStore v p w charge (Some c) after = Relit (cut_short v p w) charge after

-- A word stands at place p: in a whole memory the one that was stored, or the one that stood there. No other word has altered.
pub record StandsThrough (v : Value) (p w charge : ℕ) (s : Stood) (after : Value) : Type 0 where
  pub lit : after.lit ≡ true
  pub cut : s.cut ≡ cut_of (write_answer v p)
  pub value : AfterStore v p w charge s.cut after
  pub here : slice_index after.words p ≡ s.word
  pub old_or_new : v.kind.whole ≡ true → (s.word ≡ w) ⊎ (s.word ≡ slice_index v.words p)
  pub others : (k : ℕ) → k ≢ p → slice_index after.words k ≡ slice_index v.words k
  pub kind : after.kind ≡ v.kind

-- The store was refused, and nothing has altered. A cut is no such refusal.
pub record IsRefused (v : Value) (p : ℕ) (e : Fault) (after : Value) : Type 0 where
  pub answer : write_answer v p ≡ Err e
  pub uncut : (told e).carried ≡ None
  pub same : after ≡ v

-- The store was cut, and so was the relight.
pub record IsCutTwice (v : Value) (p w charge : ℕ) (e : Fault) (after : Value) : Type 0 where
  pub first : IsSome (cut_of (write_answer v p))
  pub second : Relights (cut_short v p w) charge (Err e) after

abbrev pub Through : Value → ℕ → ℕ → ℕ → Result Stood Fault → Value → Type 0
Through v p w charge (Ok s) after = StandsThrough v p w charge s after
Through v p w charge (Err e) after = IsRefused v p e after ⊎ IsCutTwice v p w charge e after

-- The last scrap given: as it was, or that of the relight where the store was cut. Refused, one of the two.
abbrev pub Gives : {M : Type 0} → (M → ℕ → Type 0) → M → ℕ → Result Stood Fault → M → Type 0
Gives given m scrap (Ok s) after = elim s.cut [ None ↦ ((t : ℕ) → given m t → given after t) | Some c ↦ given after scrap ]
Gives given m scrap (Err e) after = ((t : ℕ) → given m t → given after t) ⊎ given after scrap
