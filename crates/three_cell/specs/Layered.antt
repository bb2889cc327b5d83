-- A three-cell memory as a value, by what the memory below means.
use Rattle.std.specs.Prelude.{◌≡◌, ℕ, ◌<◌, ◌≤◌, true, false, not, length, is_some, Ok, Err, Result}
use Rattle.memory.specs.declared.fault.Fault.{Fault}
use Rattle.memory.specs.declared.fault.Fault.TheVariants.{Cut, Dark, Outside}
use Rattle.memory.specs.declared.fault.Unfit.{Unfit}
use Rattle.memory.specs.declared.interface.Memory.{Ghosts}
use Rattle.memory.specs.Value.{Limits, Relights, Value, Wrote}
use Rattle.memory.specs.Light.{doubt_of, is_lit}
use Rattle.three_cell.specs.declared.memories.ThreeCell.{ThreeCell}
use Rattle.three_cell.specs.declared.site.Site.{Site}
use Rattle.cells.specs.Members.{three_limits}
use Rattle.cells.specs.Cells.{thirds}
use Rattle.cells.specs.Three.{MendsAll, ThreeLawful, below_after, made_over, three_value}

module _ {M : Type 0} (memory : Ghosts M) where
  abbrev pub below_seen : ThreeCell M → Value
  below_seen m = memory.seen m.below

  abbrev pub three_seen : ThreeCell M → Value
  three_seen m = three_value (below_seen m) (is_lit m.light) (doubt_of m.light)

  abbrev pub three_lawful : ThreeCell M → Type 0
  three_lawful m = memory.lawful m.below × ThreeLawful (below_seen m) (is_lit m.light) (doubt_of m.light)

  abbrev pub limits_kept : (m : ThreeCell M) → three_lawful m → Limits (three_seen m)
  limits_kept m l = three_limits (below_seen m) (is_lit m.light) (doubt_of m.light) (memory.limits m.below l.0) l.1

  abbrev pub three_given : ThreeCell M → ℕ → Type 0
  three_given m s = memory.given m.below s

  -- a word that can be read and written, or the refusal
  abbrev pub Reaches : ThreeCell M → ℕ → Result Site Fault → Type 0
  Reaches m p (Ok site) = (is_lit m.light ≡ true) × (p < thirds (below_seen m).words) × (p < length (three_seen m).words) × (site.place ≡ p)
  Reaches m p (Err Dark) = is_lit m.light ≡ false
  Reaches m p (Err Outside) = (is_lit m.light ≡ true) × (thirds (below_seen m).words ≤ p) × (length (three_seen m).words ≤ p)
  Reaches m p (Err (Cut c)) = ⊥

  -- what every memory promises of a write, and of a relight
  abbrev pub Writes : ThreeCell M → ℕ → ℕ → Result (Unit {0}) Fault → ThreeCell M → Type 0
  Writes m p w r after = three_lawful m → three_lawful after × Wrote (three_seen m) p w r (three_seen after)

  abbrev pub RelightsThree : ThreeCell M → ℕ → Result (Unit {0}) Fault → ThreeCell M → Type 0
  RelightsThree m charge r after = three_lawful m → three_lawful after × Relights (three_seen m) charge r (three_seen after)

  -- What the memory below then is. A relight goes by that memory alone: nothing else is remembered.
  abbrev pub StoresBelow : ThreeCell M → ℕ → ℕ → ThreeCell M → Type 0
  StoresBelow m p w after = three_lawful m → below_seen after ≡ below_after (below_seen m) (is_lit m.light) p w

  abbrev pub MendsBelow : ThreeCell M → ℕ → Result (Unit {0}) Fault → ThreeCell M → Type 0
  MendsBelow m charge r after = memory.lawful m.below → MendsAll (below_seen m) charge r (below_seen after)

  -- The light after a relight: lit, or dark with the word in doubt that was so before. Lawful or not.
  abbrev pub LightAfter : ThreeCell M → Result (Unit {0}) Fault → ThreeCell M → Type 0
  LightAfter m (Ok u) after = is_lit after.light ≡ true
  LightAfter m (Err e) after = (is_lit after.light ≡ false) × (doubt_of after.light ≡ doubt_of m.light)

  -- making: lit, or dark with a word in doubt; or the memory below is handed back, with the reason
  abbrev pub Makes : M → Result (ThreeCell M) (Unfit M) → Type 0
  Makes below (Ok m) = (m.below ≡ below) × (is_lit m.light ≡ not (is_some (doubt_of m.light))) × (memory.lawful below → (made_over (memory.seen below) ≡ Ok (doubt_of m.light)) × three_lawful m)
  Makes below (Err e) = (e.given ≡ below) × (memory.lawful below → made_over (memory.seen below) ≡ Err e.why)
