-- A cabinet whose memory was relit.
use Rattle.std.proofs.Common.{ℕ, Ok, arith}
use Rattle.memory.specs.Value.{Relit, Value}
use Rattle.calls.specs.declared.answer.Woken.{Woken}
use Rattle.calls.specs.Calls.{Relights}
use Rattle.calls.specs.Lawful.{Lawful}
use Rattle.calls.specs.Stages.{Held}
use Rattle.calls.proofs.Keeps.{found_long, relight_keeps}
use Rattle.cabinet.specs.Cabinets.{Readable}
use Rattle.cabinet.specs.Waking.{WakesTo}

-- its memory can be read
pub relit_readable : (h : Held) (charge : ℕ) (v : Value) → Lawful h → Relit h.memory charge v → Readable h.program v
relit_readable h charge v l relit =
    let long = found_long h.memory.kind.whole h.memory.doubt h.memory.words v.words relit.found in
    record { lit = relit.lit; long = omega (arith, l.long) }

-- and it is lawful
pub awake_lawful : (h h′ : Held) (charge : ℕ) (w : Woken) → Lawful h → WakesTo h charge w h′ → Lawful h′ × Relights h charge (Ok w) h′
unfolding WakesTo
awake_lawful h h′ charge w l wakes = (relight_keeps h charge (Ok w) h′ l wakes, wakes)
