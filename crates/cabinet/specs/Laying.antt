-- Stores one after the other, and how a memory is laid.
use Rattle.std.specs.Prelude.{◌≡◌, ℕ, List, [], ◌∷◌, ◌++◌, IfOk, length, drop, replicate, Ok, Err, Result}
use Rattle.memory.specs.declared.fault.Fault.{Fault}
use Rattle.memory.specs.declared.interface.Memory.{Ghosts}
use Rattle.memory.specs.Value.{Value}
use Rattle.program.specs.Sound.{Source}
use Rattle.plain.specs.Plain.{at_first, page}
use Rattle.layout.specs.Places.{head_place, length_place, log_place, next_place, variable_place}
use Rattle.calls.specs.declared.unready.Unready.{Unready}
use Rattle.calls.specs.Opening.{Laid, stored_all, stores_answer, unlaid_word}
use Rattle.calls.specs.Running.{stores_from}

-- What stores of these words answer and leave, from a place on. They do not unfold by themselves: the stores would be searched one by one.
unfoldable pub answer_from : ℕ → List ℕ → Value → Result (Unit {0}) Fault
answer_from place words v = stores_answer v (stores_from place words)

unfoldable pub left_from : ℕ → List ℕ → Value → Value
left_from place words v = stored_all v (stores_from place words)

-- the same, and what is stored behind them if all are made
abbrev pub then_answer : ℕ → List ℕ → (Value → Result (Unit {0}) Fault) → Value → Result (Unit {0}) Fault
then_answer place words next v = elim (answer_from place words v) [ Ok _ ↦ next (left_from place words v) | Err e ↦ Err e ]

abbrev pub then_left : ℕ → List ℕ → (Value → Value) → Value → Value
then_left place words next v = elim (answer_from place words v) [ Ok _ ↦ next (left_from place words v) | Err e ↦ left_from place words v ]

-- The page is stored in five parts.
unfoldable pub page_answer : Source → Value → Result (Unit {0}) Fault
page_answer p =
    then_answer next_place (unlaid_word ∷ []) (then_answer head_place (replicate 3 0) (then_answer length_place (replicate 9 0)
    (then_answer (variable_place 0) p.firsts (answer_from next_place (0 ∷ [])))))

unfoldable pub page_left : Source → Value → Value
page_left p =
    then_left next_place (unlaid_word ∷ []) (then_left head_place (replicate 3 0) (then_left length_place (replicate 9 0)
    (then_left (variable_place 0) p.firsts (left_from next_place (0 ∷ [])))))

-- The words of a memory that is laid: the head is 0, then comes the plain machine's page before the first visit, and then what stood there.
unfoldable pub laid_words : Source → List ℕ → List ℕ
laid_words p ws = 0 ∷ page (at_first p) ++ drop (log_place (length p.firsts)) ws

module _ {M : Type 0} (memory : Ghosts M) where
  -- a lawful memory answers so and is so then
  abbrev pub Stores : (Value → Result (Unit {0}) Fault) → (Value → Value) → M → Result (Unit {0}) Fault → M → Type 0
  Stores answer left m r m′ = memory.lawful m → memory.lawful m′ × (r ≡ answer (memory.seen m)) × (memory.seen m′ ≡ left (memory.seen m))

  -- stores of these words, from the place on
  abbrev pub StoresFrom : ℕ → List ℕ → M → Result (Unit {0}) Fault → M → Type 0
  StoresFrom place words m r m′ = Stores (answer_from place words) (left_from place words) m r m′

  abbrev pub StoresPage : Source → M → Result (Unit {0}) Fault → M → Type 0
  StoresPage p m r m′ = Stores (page_answer p) (page_left p) m r m′

  -- the last scrap given to it is as it was
  abbrev pub ScrapStays : M → M → Type 0
  ScrapStays m m′ = (scrap : ℕ) → memory.given m scrap → memory.given m′ scrap

  -- LAY
  abbrev pub Lays : Source → M → Result (Unit {0}) Unready → M → Type 0
  Lays p m r m′ = memory.lawful m → memory.lawful m′ × Laid p (memory.seen m) r (memory.seen m′)

  -- accepted, it leaves the page
  abbrev pub LeavesPage : Source → M → Result (Unit {0}) Unready → M → Type 0
  LeavesPage p m r m′ = memory.lawful m → IfOk r (λ _. (memory.seen m′).words ≡ laid_words p (memory.seen m).words)
