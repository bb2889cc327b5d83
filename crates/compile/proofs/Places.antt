-- Where a task's line stands, line after line.
use Rattle.std.proofs.Common.{arith, inl, inr, cond, true, false, ◌≡◌, sym, ap, ap₂, ◌∙◌, ℕ, suc, ◌+◌, ◌-◌, ◌<◌, ◌≤◌, List, [], get_or, Some, None}
use Rattle.std.specs.List.{cons_option}
use Rattle.std.proofs.lemmas.Bool.{cases_lt}
use Rattle.text.specs.Refusals.{nowhere}
use Rattle.text.specs.Tokens.{Tok, first_place}
use Rattle.text.specs.Reading.{IsNext}
use Rattle.forms.specs.Forms.{form_of}
use Rattle.compile.specs.Passes.{opens_task, place_of_task, task_place, task_places}
use Rattle.compile.proofs.Going.{form_held, place_held}

-- with these lines left of all, and so many tasks past, none of them the one that is sought
pub record Seeking (all left : List (List Tok)) (t passed : ℕ) : Type 0 where
  pub ahead : passed ≤ t
  pub same : get_or (task_places left) (t - passed) nowhere ≡ task_place all t

-- the places of the lines that are left
places_next : (left left′ : List (List Tok)) (held : List Tok) → IsNext left left′ held → task_places left ≡ cons_option (place_of_task (first_place held) (form_of held)) (task_places left′)
places_next left left′ held n = ap task_places n.next ∙ ap₂ (λ p f. cons_option (place_of_task p f) (task_places left′)) (place_held left left′ held n) (form_held left left′ held n)

pub seeking_starts : (all : List (List Tok)) (t : ℕ) → Seeking all all t 0
seeking_starts all t = record { ahead = omega arith; same = ap (λ k. get_or (task_places all) k nowhere) (omega arith) }

-- a line that is no task's
pub seeking_past : (all left left′ : List (List Tok)) (held : List Tok) (t passed : ℕ) → Seeking all left t passed → IsNext left left′ held → opens_task (form_of held) ≡ false → Seeking all left′ t passed
seeking_past all left left′ held t passed s n e =
    record { ahead = s.ahead; same = sym (ap (λ ps. get_or ps (t - passed) nowhere) (places_next left left′ held n ∙ ap (λ b. cons_option (cond b (Some (first_place held)) None) (task_places left′)) e)) ∙ s.same }

further_on : (passed t : ℕ) → passed ≤ t → (passed ≡ t → ⊥) → passed < t
further_on passed t l other = elim (cases_lt passed t) [ inl less ↦ less | inr reached ↦ absurd (other (omega arith)) ]

-- another task's line
pub seeking_on : (all left left′ : List (List Tok)) (held : List Tok) (t passed : ℕ) → Seeking all left t passed → IsNext left left′ held → opens_task (form_of held) ≡ true → (passed ≡ t → ⊥)
    → Seeking all left′ t (passed + 1)
seeking_on all left left′ held t passed s n e other =
    let ahead = s.ahead in
    let less : passed < t = further_on passed t ahead other in
    let further : t - passed ≡ suc (t - (passed + 1)) = omega arith in
    record {
      ahead = omega arith;
      same = sym (ap₂ (λ ps k. get_or ps k nowhere) (places_next left left′ held n ∙ ap (λ b. cons_option (cond b (Some (first_place held)) None) (task_places left′)) e) further) ∙ s.same;
    }

-- the task's own line
pub seeking_found : (all left left′ : List (List Tok)) (held : List Tok) (t passed : ℕ) → Seeking all left t passed → IsNext left left′ held → opens_task (form_of held) ≡ true → passed ≡ t
    → first_place held ≡ task_place all t
seeking_found all left left′ held t passed s n e same =
    let here : t - passed ≡ 0 = omega arith in
    sym (ap₂ (λ ps k. get_or ps k nowhere) (places_next left left′ held n ∙ ap (λ b. cons_option (cond b (Some (first_place held)) None) (task_places left′)) e) here) ∙ s.same

pub seeking_ends : (all left : List (List Tok)) (t passed : ℕ) → Seeking all left t passed → left ≡ [] → nowhere ≡ task_place all t
seeking_ends all left t passed s e = sym (ap (λ ls. get_or (task_places ls) (t - passed) nowhere) e) ∙ s.same
