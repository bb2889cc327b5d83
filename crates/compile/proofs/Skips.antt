-- The round of skips, and the lines that a skip passes over.
use Rattle.std.proofs.Common.{arith, ◌≡◌, sym, ap, ap₂, ◌∙◌, ℕ, suc, ◌+◌, ◌-◌, ◌<◌, Bool, true, false, cond, ◌||◌, List, take, Some, None}
use Rattle.std.specs.List.{list_any}
use Rattle.text.specs.declared.refusal.Refusal.{Refusal}
use Rattle.text.specs.Tokens.{Tok, first_place}
use Rattle.text.specs.Reading.{IsNext}
use Rattle.forms.specs.Forms.{Line, form_of}
use Rattle.rounds.specs.Rounds.{forms_of, is_ending, passed_behind, skip_round}
use Rattle.compile.specs.Passes.{all_formed, ends_task}
use Rattle.compile.proofs.Going.{Next, form_held, next_of, place_held}

-- with these lines left of those that are looked at, and so many of them behind
pub record Looking (lines left : List (List Tok)) (count counter : ℕ) : Type 0 where
  pub formed : all_formed left ≡ true
  pub same : list_any is_ending (take (count - counter) (forms_of left)) ≡ list_any is_ending (take count (forms_of lines))

-- one more of them
one_more : (left left′ : List (List Tok)) (held : List Tok) (count counter : ℕ) → counter < count → (m : Next left left′ held)
    → list_any is_ending (take (count - counter) (forms_of left)) ≡ (ends_task (form_of held) || list_any is_ending (take (count - (counter + 1)) (forms_of left′)))
one_more left left′ held count counter l m =
    let more : count - counter ≡ suc (count - (counter + 1)) = omega arith in
    ap₂ (λ k fs. list_any is_ending (take k fs)) more m.forms ∙ ap (λ b. b || list_any is_ending (take (count - (counter + 1)) (forms_of left′))) (sym (ap ends_task m.form))

pub looking_goes : (lines left left′ : List (List Tok)) (held : List Tok) (count counter : ℕ) → counter < count → Looking lines left count counter → IsNext left left′ held → ends_task (form_of held) ≡ false
    → Looking lines left′ count (counter + 1)
looking_goes lines left left′ held count counter l k n e =
    let m = next_of left left′ held k.formed n in
    record {
      formed = m.formed;
      same = sym (one_more left left′ held count counter l m ∙ ap (λ b. b || list_any is_ending (take (count - (counter + 1)) (forms_of left′))) e) ∙ k.same;
    }

pub looking_stops : (lines left left′ : List (List Tok)) (held : List Tok) (count counter : ℕ) → counter < count → Looking lines left count counter → IsNext left left′ held → ends_task (form_of held) ≡ true
    → true ≡ list_any is_ending (take count (forms_of lines))
looking_stops lines left left′ held count counter l k n e =
    let m = next_of left left′ held k.formed n in
    sym (one_more left left′ held count counter l m ∙ ap (λ b. b || list_any is_ending (take (count - (counter + 1)) (forms_of left′))) e) ∙ k.same

-- a line as it is looked at: its form and its place are those of the tokens that are held
skip_looked : (before : List Line) (left left′ : List (List Tok)) (held : List Tok) (n : IsNext left left′ held) (k : ℕ) → k ≡ passed_behind (form_of held)
    → skip_round before n.tokens (forms_of left′) ≡ cond (list_any is_ending (take k (forms_of left′))) (Some (Refusal.Skip (first_place held))) None
skip_looked before left left′ held n k e =
    ap₂ (λ m place. cond (list_any is_ending (take m (forms_of left′))) (Some (Refusal.Skip place)) None) (ap passed_behind (form_held left left′ held n) ∙ sym e) (place_held left left′ held n)

-- a skip that passes over its task's ending, and a line that does not
pub skip_offends : (before : List Line) (left left′ : List (List Tok)) (held : List Tok) (n : IsNext left left′ held) (k : ℕ) (b : Bool) → k ≡ passed_behind (form_of held)
    → b ≡ list_any is_ending (take k (forms_of left′)) → b ≡ true → skip_round before n.tokens (forms_of left′) ≡ Some (Refusal.Skip (first_place held))
skip_offends before left left′ held n k b e f g = skip_looked before left left′ held n k e ∙ ap (λ c. cond c (Some (Refusal.Skip (first_place held))) None) (sym f ∙ g)

pub skip_fine : (before : List Line) (left left′ : List (List Tok)) (held : List Tok) (n : IsNext left left′ held) (k : ℕ) (b : Bool) → k ≡ passed_behind (form_of held)
    → b ≡ list_any is_ending (take k (forms_of left′)) → b ≡ false → skip_round before n.tokens (forms_of left′) ≡ None
skip_fine before left left′ held n k b e f g = skip_looked before left left′ held n k e ∙ ap (λ c. cond c (Some (Refusal.Skip (first_place held))) None) (sym f ∙ g)
