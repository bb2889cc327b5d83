-- The rule of three cells, and a three-cell memory of two words over six places, on examples.
use Rattle.std.specs.Prelude.{◌≡◌, ℕ, true, false, List, [], ◌∷◌, Some, None, Ok, Err, Result, nat_eq}
use Rattle.memory.specs.declared.doubt.Doubt.{Doubt}
use Rattle.memory.specs.declared.fault.Fault.{Fault}
use Rattle.memory.specs.declared.fault.Fault.TheVariants.{Cut, Dark, Outside}
use Rattle.memory.specs.declared.fault.Unmade.TheVariants as unmade
use Rattle.memory.specs.Value.{Kind, Value, read_of, write_answer}
use Rattle.cells.specs.declared.triple.Triple.{Triple}
use Rattle.cells.specs.Triple.{A, B, C, mends, reads, to_all}
use Rattle.cells.specs.Cells.{mended_below, stored_to, words_of}
use Rattle.cells.specs.Three.{made_over, three_kind, three_value}

abbrev pub cells : ℕ → ℕ → ℕ → Triple ℕ
cells a b c = record { a = a; b = b; c = c }

-- a torn memory of price 1 and dues 0, with nothing below it
abbrev pub lowest : Kind
lowest = record { price = 1; dues = 0; whole = false; layers = 0; lowest = λ charge place. place; buffer = 0 }

abbrev pub lit_with : ℕ → List ℕ → Value
lit_with charge words = record { words = words; charge = charge; lit = true; doubt = None; kind = lowest }

-- word 0 is 7 and word 1 is 4; one place is over
abbrev pub two_words : List ℕ
two_words = 7 ∷ 7 ∷ 7 ∷ 4 ∷ 4 ∷ 4 ∷ 9 ∷ []

-- the same with word 1 cut at B on the way from 4 to 6
abbrev pub under_way : List ℕ
under_way = 7 ∷ 7 ∷ 7 ∷ 6 ∷ 1 ∷ 4 ∷ 9 ∷ []

abbrev pub four_to_six : Doubt
four_to_six = record { place = 1; old = 4; new = 6 }

abbrev pub cut_at_place : ℕ → ℕ → Result (Unit {0}) Fault
cut_at_place place layers = Err (Cut (record { place = place; layers = layers }))

pub record ExamplesHold : Type 0 where
  -- B if B equals C, otherwise A
  pub reads_b : reads nat_eq (cells 9 4 4) ≡ 4
  pub reads_a : reads nat_eq (cells 9 4 7) ≡ 9
  pub reads_a_of_two : reads nat_eq (cells 9 9 4) ≡ 9
  -- the stores that mend
  pub equal_wants_none : mends nat_eq (cells 9 9 9) ≡ []
  pub b_goes_to_a : mends nat_eq (cells 9 4 4) ≡ record { cell = A; unit = 4 } ∷ []
  pub a_goes_to_c : mends nat_eq (cells 9 9 4) ≡ record { cell = C; unit = 9 } ∷ []
  pub a_goes_to_both : mends nat_eq (cells 9 4 7) ≡ record { cell = B; unit = 9 } ∷ record { cell = C; unit = 9 } ∷ []
  pub a_goes_to_both_where_c_is_a : mends nat_eq (cells 9 4 9) ≡ record { cell = B; unit = 9 } ∷ record { cell = C; unit = 9 } ∷ []
  -- a memory of two words
  pub words_read : words_of two_words ≡ 7 ∷ 4 ∷ []
  pub words_read_under_way : words_of under_way ≡ 7 ∷ 6 ∷ []
  pub reads_a_word : read_of (three_value (lit_with 5 two_words) true None) 1 ≡ Ok 4
  pub nothing_past_it : read_of (three_value (lit_with 5 two_words) true None) 2 ≡ Err Outside
  pub nothing_when_dark : read_of (three_value (lit_with 5 under_way) false (Some four_to_six)) 1 ≡ Err Dark
  pub no_charge_when_dark : (three_value (lit_with 5 under_way) false (Some four_to_six)).charge ≡ 0
  -- a store is cut at the cell at which the charge gives out, and told one layer up
  pub stored_all : (stored_to (lit_with 5 two_words) 1 (to_all 6)).value ≡ lit_with 2 (7 ∷ 7 ∷ 7 ∷ 6 ∷ 6 ∷ 6 ∷ 9 ∷ [])
  pub cut_leaves_b : (stored_to (lit_with 1 two_words) 1 (to_all 6)).value ≡ record { words = 7 ∷ 7 ∷ 7 ∷ 6 ∷ 4 ∷ 4 ∷ 9 ∷ []; charge = 0; lit = false; doubt = Some (record { place = 4; old = 4; new = 6 }); kind = lowest }
  pub cut_at_a : write_answer (three_value (lit_with 0 two_words) true None) 1 ≡ cut_at_place 3 1
  pub cut_at_b : write_answer (three_value (lit_with 1 two_words) true None) 1 ≡ cut_at_place 4 1
  pub cut_at_c : write_answer (three_value (lit_with 2 two_words) true None) 1 ≡ cut_at_place 5 1
  pub not_cut : write_answer (three_value (lit_with 3 two_words) true None) 1 ≡ Ok tt
  -- three cells over three cells: price 9, dues 8, and the place of the lowest memory
  pub price_over_two : (three_kind (three_kind lowest)).price ≡ 9
  pub dues_over_two : (three_kind (three_kind lowest)).dues ≡ 8
  pub layers_over_two : (three_kind (three_kind lowest)).layers ≡ 2
  pub place_over_two : (three_kind (three_kind lowest)).lowest 5 2 ≡ 23
  -- mending goes upward, and a store of it can be cut
  pub mended_all : (mended_below (lit_with 5 under_way) 2).value ≡ lit_with 3 (7 ∷ 7 ∷ 7 ∷ 6 ∷ 6 ∷ 6 ∷ 9 ∷ [])
  pub mending_cut : (mended_below (lit_with 1 under_way) 2).answer ≡ cut_at_place 5 0
  -- made lit, dark with a word in doubt, or refused
  pub made_lit : made_over (lit_with 5 two_words) ≡ Ok None
  pub made_dark : made_over (lit_with 5 under_way) ≡ Ok (Some four_to_six)
  pub two_unequal : made_over (lit_with 5 (7 ∷ 8 ∷ 7 ∷ 6 ∷ 1 ∷ 4 ∷ [])) ≡ Err unmade.Unequal
  pub too_dear : made_over (three_value (three_value (lit_with 5 two_words) true None) true None) ≡ Err unmade.Dear
  pub dark_below : made_over (three_value (lit_with 5 under_way) false (Some four_to_six)) ≡ Err unmade.Dark
