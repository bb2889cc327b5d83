-- A memory's light, as its value tells it.
use Rattle.std.specs.Prelude.{ℕ, Bool, true, false, cond, None, Ok, Err, Option, Result, nat_lt}
use Rattle.memory.specs.declared.doubt.Doubt.{Doubt}
use Rattle.memory.specs.declared.fault.Fault.{Fault}
use Rattle.memory.specs.declared.fault.Fault.TheVariants as fault
use Rattle.memory.specs.declared.light.Light.{Light}
use Rattle.memory.specs.declared.light.Light.TheVariants.{Lit, Dark}

abbrev pub is_lit : Light → Bool
is_lit Lit = true
is_lit (Dark doubt) = false

-- the place in doubt, of which a lit memory has none
abbrev pub doubt_of : Light → Option Doubt
doubt_of Lit = None
doubt_of (Dark doubt) = doubt

-- What a call at a place of so many answers: 3 if dark, 4 if there is no such place, otherwise what is said there.
abbrev pub answer_at : {A : Type 0} → Bool → ℕ → ℕ → Result A Fault → Result A Fault
answer_at lit place count answer = cond lit (cond (nat_lt place count) answer (Err fault.Outside)) (Err fault.Dark)

-- What it leaves: where it is refused, what there was.
abbrev pub left_at : {A : Type 0} → Bool → ℕ → ℕ → A → A → A
left_at lit place count new old = cond lit (cond (nat_lt place count) new old) old

-- Whether the place can be read and written, or why not.
abbrev pub reached : Bool → ℕ → ℕ → Result (Unit {0}) Fault
reached lit place count = answer_at lit place count (Ok tt)
