-- A round over lines that have forms, line after line.
use Rattle.std.proofs.Common.{◌≡◌, refl, sym, ap, ◌∙◌, true, List, [], ◌∷◌, ◌++◌, Option, Some, None, append-nil}
use Rattle.std.specs.Option.{is_some}
use Rattle.std.proofs.lemmas.Bool.{and_parts}
use Rattle.text.specs.declared.refusal.Refusal.{Refusal}
use Rattle.text.specs.Tokens.{Tok, first_place}
use Rattle.text.specs.Reading.{IsNext}
use Rattle.forms.specs.Forms.{Line, form_of}
use Rattle.forms.proofs.Forms.{form_of_first_seven}
use Rattle.rounds.specs.Rounds.{first_line, forms_of}
use Rattle.compile.specs.Passes.{all_formed}
use Rattle.compile.proofs.Judging.{first_place_seven, first_line_ends, first_line_goes, first_line_stops, forms_go, snoc_cons}

-- What holds with these lines left of all, behind those that are past.
pub record GoingFrom (offence : List Line → List Tok → List Line → Option Refusal) (all left : List (List Tok)) (before : List Line) : Type 0 where
  pub formed : all_formed left ≡ true
  pub rest : first_line offence before left ≡ first_line offence [] all
  pub whole : before ++ forms_of left ≡ forms_of all

abbrev pub Going : (List Line → List Tok → List Line → Option Refusal) → List (List Tok) → List (List Tok) → Type 0
Going offence all left = (before : List Line) × GoingFrom offence all left before

-- The next of them: its form, and the lines behind it, which have forms too.
pub record Next (left left′ : List (List Tok)) (held : List Tok) : Type 0 where
  pub line : Line
  pub form : form_of held ≡ Some line
  pub forms : forms_of left ≡ line ∷ forms_of left′
  pub formed : all_formed left′ ≡ true

-- A line's form and its place are those of the tokens that are held.
pub form_held : (left left′ : List (List Tok)) (held : List Tok) (n : IsNext left left′ held) → form_of n.tokens ≡ form_of held
form_held left left′ held n = sym (form_of_first_seven n.tokens) ∙ sym (ap form_of n.first_seven)

pub place_held : (left left′ : List (List Tok)) (held : List Tok) (n : IsNext left left′ held) → first_place n.tokens ≡ first_place held
place_held left left′ held n = sym (first_place_seven n.tokens) ∙ sym (ap first_place n.first_seven)

has_form : (o : Option Line) → is_some o ≡ true → (l : Line) × (o ≡ Some l)
has_form (Some l) e = (l, refl)
has_form None e = cc

pub next_of : (left left′ : List (List Tok)) (held : List Tok) → all_formed left ≡ true → IsNext left left′ held → Next left left′ held
next_of left left′ held e n =
    let parts = and_parts (is_some (form_of n.tokens)) (all_formed left′) (sym (ap all_formed n.next) ∙ e) in
    let has = has_form (form_of n.tokens) parts.0 in
    record {
      line = has.0;
      form = sym (form_held left left′ held n) ∙ has.1;
      forms = ap forms_of n.next ∙ forms_go n.tokens has.0 left′ has.1;
      formed = parts.1;
    }

pub going_starts : (offence : List Line → List Tok → List Line → Option Refusal) (all : List (List Tok)) → all_formed all ≡ true → GoingFrom offence all all []
going_starts offence all e = record { formed = e; rest = refl; whole = refl }

pub going_goes : (offence : List Line → List Tok → List Line → Option Refusal) (all left left′ : List (List Tok)) (held : List Tok) (before : List Line) (g : GoingFrom offence all left before) (n : IsNext left left′ held) (m : Next left left′ held)
    → offence before n.tokens (forms_of left′) ≡ None → GoingFrom offence all left′ (before ++ m.line ∷ [])
going_goes offence all left left′ held before g n m e =
    let has = form_held left left′ held n ∙ m.form in
    record {
      formed = m.formed;
      rest = sym (first_line_goes offence before n.tokens m.line left′ e has) ∙ sym (ap (first_line offence before) n.next) ∙ g.rest;
      whole = snoc_cons before m.line (forms_of left′) ∙ ap (λ b. before ++ b) (sym m.forms) ∙ g.whole;
    }

pub going_on : (offence : List Line → List Tok → List Line → Option Refusal) (all left left′ : List (List Tok)) (held : List Tok) (g : Going offence all left) (n : IsNext left left′ held)
    → offence g.0 n.tokens (forms_of left′) ≡ None → Going offence all left′
going_on offence all left left′ held g n e =
    let m = next_of left left′ held g.1.formed n in
    (g.0 ++ m.line ∷ [], going_goes offence all left left′ held g.0 g.1 n m e)

pub going_stops : (offence : List Line → List Tok → List Line → Option Refusal) (all left left′ : List (List Tok)) (held : List Tok) (r : Refusal) (before : List Line) (g : GoingFrom offence all left before) (n : IsNext left left′ held)
    → offence before n.tokens (forms_of left′) ≡ Some r → first_line offence [] all ≡ Some r
going_stops offence all left left′ held r before g n e = sym g.rest ∙ ap (first_line offence before) n.next ∙ first_line_stops offence before n.tokens left′ r e

pub going_ends : (offence : List Line → List Tok → List Line → Option Refusal) (all left : List (List Tok)) (before : List Line) → GoingFrom offence all left before → left ≡ [] → (first_line offence [] all ≡ None) × (before ≡ forms_of all)
going_ends offence all left before g e =
    (sym g.rest ∙ ap (first_line offence before) e ∙ first_line_ends offence before, sym (append-nil before) ∙ sym (ap (λ ls. before ++ forms_of ls) e) ∙ g.whole)
