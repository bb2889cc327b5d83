-- What an attempt sees of a variable.
use Rattle.std.proofs.Common.{◌≡◌, ℕ, ◌<◌, ◌≤◌, true, false, cond, List, length, get_or, drop, ap, ◌∙◌, refl, arith, length-take-le, length-drop, get_or-take}
use Rattle.std.proofs.lemmas.List.{get_or-drop}
use Rattle.laws.proofs.Views.{get_or-overlay}
use Rattle.program.specs.Sound.{Source}
use Rattle.facts.specs.declared.set.VariableSet.{VariableSet}
use Rattle.facts.specs.Sets.{has}
use Rattle.layout.specs.Places.{least_length, variable_place}
use Rattle.calls.proofs.Fits.{fits_parts}
use Rattle.calls.specs.Stages.{Attempt}
use Rattle.calls.specs.Words.{variables_in}
use Rattle.cabinet.specs.Running.{fits, sees}

-- the variables of a memory that is long enough
pub variables_long : (p : Source) (ws : List ℕ) → least_length (length p.firsts) ≤ length ws → length (variables_in p ws) ≡ length p.firsts
variables_long p ws long = length-take-le (length p.firsts) (drop (variable_place 0) ws) (omega (arith, length-drop (variable_place 0) ws))

module _ (p : Source) (logged : VariableSet) (a : Attempt) (ws : List ℕ) where
  -- the row and the locals
  pub sees_inputs : (sees p logged a ws).inputs ≡ a.inputs
  unfolding sees
  sees_inputs = refl

  pub sees_locals : (sees p logged a ws).locals ≡ a.locals
  unfolding sees
  sees_locals = refl

  module _ (v : ℕ) (f : fits p a ≡ true) (few : v < 48) (there : v < length p.firsts) (long : least_length (length p.firsts) ≤ length ws) where
    seen_word : get_or (sees p logged a ws).variables v 0 ≡ cond (has logged v) (get_or a.copies v 0) (get_or ws (variable_place v) 0)
    unfolding sees fits
    seen_word =
        let copies = (fits_parts p a f).copies in
        get_or-overlay (has logged) a.copies (variables_in p ws) v (omega arith) (omega (arith, variables_long p ws long))
        ∙ ap (cond (has logged v) (get_or a.copies v 0)) (get_or-take (length p.firsts) (drop (variable_place 0) ws) v 0 there ∙ get_or-drop (variable_place 0) ws v 0)

    -- a logged variable is its working copy
    pub sees_copy : has logged v ≡ true → get_or (sees p logged a ws).variables v 0 ≡ get_or a.copies v 0
    sees_copy h = seen_word ∙ ap (λ b. cond b (get_or a.copies v 0) (get_or ws (variable_place v) 0)) h

    -- any other is its word in memory
    pub sees_word : has logged v ≡ false → get_or (sees p logged a ws).variables v 0 ≡ get_or ws (variable_place v) 0
    sees_word h = seen_word ∙ ap (λ b. cond b (get_or a.copies v 0) (get_or ws (variable_place v) 0)) h
