-- What faults and a memory's value come to on examples.
use Rattle.std.specs.Prelude.{◌≡◌, ℕ, ◌+◌, ◌*◌, Bool, true, false, List, [], ◌∷◌, Some, None, Ok, Err}
use Rattle.memory.specs.declared.fault.Cut.{Cut}
use Rattle.memory.specs.declared.fault.Fault.TheVariants as fault
use Rattle.memory.specs.declared.fault.Unmade.TheVariants as unmade
use Rattle.memory.specs.Faults.{raise, told, unmade_number}
use Rattle.memory.specs.Value.{CutAgain, Kind, MayHold, NoMoreInDoubt, Relit, Value, read_of, settled, write_answer, written}

-- cut at place 7, so many layers below the one that was called
abbrev pub at_seven : ℕ → Cut
at_seven layers = record { place = 7; layers = layers }

-- price 2, dues 1, one layer over a memory in which each word takes two places
abbrev pub some_kind : Bool → Kind
some_kind whole = record { price = 2; dues = 1; whole = whole; layers = 1; lowest = λ charge p. 2 * p + charge; buffer = 0 }

-- two words, lit
abbrev pub lit_with : Bool → ℕ → Value
lit_with whole charge = record { words = 4 ∷ 5 ∷ []; charge = charge; lit = true; doubt = None; kind = some_kind whole }

-- the second word is 6, with so much charge
abbrev pub lit_on_new : ℕ → Value
lit_on_new charge = record { words = 4 ∷ 6 ∷ []; charge = charge; lit = true; doubt = None; kind = some_kind true }

-- dark, with nothing in doubt
abbrev pub dark_and_sure : List ℕ → Value
dark_and_sure words = record { words = words; charge = 0; lit = false; doubt = None; kind = some_kind true }

-- cut at such a place of the lowest memory, with one layer above it
abbrev pub cut_there : ℕ → Cut
cut_there place = record { place = place; layers = 1 }

-- the second word cut on the way from 5 to 6
abbrev pub dark : Bool → Value
dark whole = record { words = 4 ∷ 5 ∷ []; charge = 0; lit = false; doubt = Some (record { place = 1; old = 5; new = 6 }); kind = some_kind whole }

pub record ExamplesHold : Type 0 where
  -- numbers, and what they carry
  pub dark_is_three : told fault.Dark ≡ record { number = 3; carried = None }
  pub outside_is_four : told fault.Outside ≡ record { number = 4; carried = None }
  pub cut_is_five : told (fault.Cut (at_seven 0)) ≡ record { number = 5; carried = Some (at_seven 0) }
  pub size_is_one : unmade_number unmade.Size ≡ 1
  pub dear_is_two : unmade_number unmade.Dear ≡ 2
  pub made_over_dark_is_three : unmade_number unmade.Dark ≡ 3
  pub unequal_is_six : unmade_number unmade.Unequal ≡ 6
  pub raised_by_one : raise (fault.Cut (at_seven 1)) ≡ fault.Cut (at_seven 2)
  pub raised_dark : raise fault.Dark ≡ fault.Dark
  -- reads
  pub reads : read_of (lit_with true 0) 1 ≡ Ok 5
  pub reads_nothing_outside : read_of (lit_with true 0) 2 ≡ Err fault.Outside
  pub reads_nothing_dark : read_of (dark true) 2 ≡ Err fault.Dark
  -- writes: a charge of the price suffices, one less is cut
  pub stored : written (lit_with true 2) 0 9 ≡ record { words = 9 ∷ 5 ∷ []; charge = 0; lit = true; doubt = None; kind = some_kind true }
  pub cut : written (lit_with true 1) 1 6 ≡ dark true
  pub cut_told : write_answer (lit_with true 1) 1 ≡ Err (fault.Cut (record { place = 3; layers = 1 }))
  pub refused_outside : written (lit_with true 0) 2 6 ≡ lit_with true 0
  -- the old word is put back at the place in doubt
  pub put_back : settled (dark true).doubt (4 ∷ 6 ∷ []) ≡ 4 ∷ 5 ∷ []
  -- what it may hold: lit, its words; whole, the old word or the new; torn, any
  pub lit_holds_its_words : MayHold (lit_with true 0) (4 ∷ 5 ∷ [])
  pub lit_holds_no_other : MayHold (lit_with true 0) (4 ∷ 6 ∷ []) → ⊥
  pub whole_holds_old : MayHold (dark true) (4 ∷ 5 ∷ [])
  pub whole_holds_new : MayHold (dark true) (4 ∷ 6 ∷ [])
  pub whole_holds_no_other : MayHold (dark true) (4 ∷ 7 ∷ []) → ⊥
  pub no_other_place : MayHold (dark true) (6 ∷ 5 ∷ []) → ⊥
  pub torn_holds_any : MayHold (dark false) (4 ∷ 65535 ∷ [])
  -- relit: on one of these, for at most the dues
  pub relit_for_nothing : Relit (dark true) 3 (lit_on_new 3)
  pub relit_for_the_dues : Relit (dark true) 3 (lit_on_new 2)
  pub no_more_than_the_dues : Relit (dark true) 3 (lit_on_new 1) → ⊥
  pub no_charge_is_added : Relit (dark true) 3 (lit_on_new 4) → ⊥
  pub relit_and_lit : Relit (dark true) 3 (dark true) → ⊥
  -- cut again: only below the dues, by the memory's own doing or at a store to the word in doubt
  pub cut_by_itself : CutAgain (dark true) 0 (cut_there 65535) (dark true)
  pub cut_at_a_store : CutAgain (dark true) 0 (cut_there 3) (dark true)
  pub cut_at_no_other : CutAgain (dark true) 0 (cut_there 4) (dark true) → ⊥
  pub not_with_the_dues : CutAgain (dark true) 1 (cut_there 65535) (dark true) → ⊥
  -- it may be settled then, on one of the words that it may hold; nothing else comes in doubt
  pub settled_on_new : NoMoreInDoubt (dark true) (dark_and_sure (4 ∷ 6 ∷ []))
  pub settled_on_no_other : NoMoreInDoubt (dark true) (dark_and_sure (4 ∷ 7 ∷ [])) → ⊥
  pub sure_stays_sure : NoMoreInDoubt (dark_and_sure (4 ∷ 5 ∷ [])) (dark true) → ⊥
