-- What a round of lines without an offence tells of the next line.
use Rattle.std.proofs.Common.{◌≡◌, refl, ap, Bool, true, false, cond, List, [], ◌∷◌, ◌++◌, Option, Some, None}
use Rattle.std.specs.Option.{is_some, option_or}
use Rattle.std.proofs.lemmas.Bool.{and_from}
use Rattle.text.specs.declared.refusal.Refusal.{Refusal}
use Rattle.text.specs.Tokens.{Tok, first_place}
use Rattle.forms.specs.Forms.{Line, form_of, slots}
use Rattle.grammar.specs.Reading.{first_of, slot_offence}
use Rattle.grammar.specs.Judging.{Point, allowed, full, judged, line_offence, point_of}
use Rattle.rounds.specs.Rounds.{first_line, forms_of, line_round}
use Rattle.compile.specs.Passes.{all_formed}

pub either_none : {A : Type 0} (x y : Option A) → option_or x y ≡ None → (x ≡ None) × (y ≡ None)
either_none None y h = (refl, h)
either_none (Some a) y h = absurd (cc)

-- neither it nor a line behind it offends
pub none_offends : (offence : List Line → List Tok → List Line → Option Refusal) (before : List Line) (ts : List Tok) (ls : List (List Tok)) → first_line offence before (ts ∷ ls) ≡ None
    → (offence before ts (forms_of ls) ≡ None) × (first_line offence (before ++ forms_of (ts ∷ [])) ls ≡ None)
unfolding first_line
none_offends offence before ts ls h = either_none (offence before ts (forms_of ls)) (first_line offence (before ++ forms_of (ts ∷ [])) ls) h

judged_by : {A : Type 0} (b c : Bool) (x y : A) (o : Option A) → cond b (cond c (Some x) o) (Some y) ≡ None → (b ≡ true) × (c ≡ false) × (o ≡ None)
judged_by true true x y o h = absurd (cc)
judged_by true false x y o h = (refl, refl, h)
judged_by false c x y o h = absurd (cc)

-- it has a form that is allowed there and passes no limit, and no token offends
pub record Fits (p : Point) (ts : List Tok) : Type 0 where
  pub line : Line
  pub has : form_of ts ≡ Some line
  pub may : allowed p line ≡ true
  pub room : full p line ≡ false
  pub fine : first_of (slot_offence p.names) (slots line) ≡ None

fits_as : (p : Point) (ts : List Tok) (o : Option Line) → form_of ts ≡ o → judged p (first_place ts) o ≡ None → Fits p ts
fits_as p ts None e h = absurd (cc)
fits_as p ts (Some l) e h =
    let told = judged_by (allowed p l) (full p l) (Refusal.Limit (first_place ts)) (Refusal.Form (first_place ts)) (first_of (slot_offence p.names) (slots l)) h in
    record { line = l; has = e; may = told.0; room = told.1; fine = told.2 }

pub line_fits : (p : Point) (ts : List Tok) → line_offence p ts ≡ None → Fits p ts
line_fits p ts h = fits_as p ts (form_of ts) refl h

-- each line has a form
pub formed_of : (before : List Line) (lines : List (List Tok)) → first_line line_round before lines ≡ None → all_formed lines ≡ true
formed_of before [] h = refl
formed_of before (ts ∷ ls) h =
    let parts = none_offends line_round before ts ls h in
    and_from _ _ (ap is_some (line_fits (point_of before) ts parts.0).has) (formed_of (before ++ forms_of (ts ∷ [])) ls parts.1)
