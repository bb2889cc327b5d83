-- The pass that reads a program, line after line.
use Rattle.std.proofs.Common.{arith, leb, subst, subst₂, ◌≡◌, refl, sym, ap, ◌∙◌, true, false, List, [], ◌∷◌, ◌++◌, length, Some, None, Ok, Err}
use Rattle.std.specs.List.{cons_option, fold}
use Rattle.std.proofs.lemmas.Bool.{leb-false, or_parts}
use Rattle.std.proofs.lemmas.List.Sums.{fold-append}
use Rattle.program.specs.Drafts.{blank}
use Rattle.program.specs.Sound.{Source}
use Rattle.text.specs.declared.refusal.Refusal.{Refusal}
use Rattle.text.specs.Tokens.{Tok}
use Rattle.text.specs.Reading.{IsNext}
use Rattle.forms.specs.Forms.{Line, variable, local, task, statement, form_of, slots}
use Rattle.grammar.specs.Names.{Declared, names_of}
use Rattle.grammar.specs.Reading.{first_of, name_offence, read_sentence, slot_offence}
use Rattle.grammar.specs.Judging.{Point, allowed, full, point_of}
use Rattle.rounds.specs.Source.{adds, source_of}
use Rattle.rounds.specs.Rounds.{first_line, forms_of, line_round, name_round, slots_of_line}
use Rattle.compile.specs.Passes.{Adds, all_formed, HasRoom, line_read}
use Rattle.compile.proofs.Agreeing.{Agrees, Reads, agrees_blank, agrees_on}
use Rattle.compile.proofs.Going.{GoingFrom, form_held, going_ends, going_goes, going_starts, going_stops, next_of}
use Rattle.compile.proofs.Judging.{point_snoc}
use Rattle.compile.proofs.Accepting.{line_fits, none_offends}
use Rattle.compile.proofs.Sentences.{sentence_offence, was_read}

-- The next line of those that were accepted.
pub record Accepted (before : List Line) (left left′ : List (List Tok)) (l : Line) : Type 0 where
  pub may_stand : allowed (point_of before) l ≡ true
  pub has_room : full (point_of before) l ≡ false
  pub no_token : first_of (slot_offence (names_of before)) (slots l) ≡ None
  pub behind : first_line line_round (before ++ l ∷ []) left′ ≡ None

accepted_next : (before : List Line) (left left′ : List (List Tok)) (held : List Tok) (n : IsNext left left′ held) (l : Line) → form_of held ≡ Some l → first_line line_round before left ≡ None → Accepted before left left′ l
accepted_next before left left′ held n l f e =
    let has : form_of n.tokens ≡ Some l = form_held left left′ held n ∙ f in
    let parts = none_offends line_round before n.tokens left′ (sym (ap (first_line line_round before) n.next) ∙ e) in
    let fits = line_fits (point_of before) n.tokens parts.0 in
    let same : fits.line ≡ l = cc in
    record {
      may_stand = ap (allowed (point_of before)) (sym same) ∙ fits.may;
      has_room = ap (full (point_of before)) (sym same) ∙ fits.room;
      no_token = ap (λ k. first_of (slot_offence (names_of before)) (slots k)) (sym same) ∙ fits.fine;
      behind = sym (ap (λ g. first_line line_round (before ++ cons_option g []) left′) has) ∙ parts.1;
    }

-- there is room for a line that passes no limit
pub room : (p : Point) (src : Source) (l : Line) → Agrees p src → allowed p l ≡ true → full p l ≡ false → HasRoom src l
room p src (variable n v) a e f = let l = leb-false 48 (length p.names.variables) f in let c = a.firsts in omega arith
room p src (local n) a e f = let l = leb-false 8 (length p.names.locals) f in let c = a.locals in omega arith
room p src (task n) a e f = let l = leb-false 16 (length p.names.tasks) f in let c = a.tasks in omega arith
room p src (statement s) a e f =
    let limits = or_parts (leb 64 p.size) (leb 256 p.statements) f in
    let few = leb-false 64 p.size limits.0 in
    let less = leb-false 256 p.statements limits.1 in
    let c = a.size in
    let d = a.statements in
    (a.some e, omega arith, omega arith)

-- what is not read of an accepted line is a task's name
line_names : (before whole more : List Line) (l : Line) → whole ≡ before ++ more → first_of (slot_offence (names_of before)) (slots l) ≡ None → line_read (names_of whole) l ≡ first_of (name_offence (names_of whole)) (slots l)
line_names before whole more (variable n v) w e = refl
line_names before whole more (local n) w e = refl
line_names before whole more (task n) w e = refl
line_names before whole more (statement s) w e = sentence_offence before whole more s w e

-- What holds with these lines left of all: a program of the lines before them.
pub record Saying (all left : List (List Tok)) (src : Source) : Type 0 where
  pub before : List Line
  pub going : GoingFrom (name_round (forms_of all)) all left before
  pub fine : first_line line_round before left ≡ None
  pub source : src ≡ fold (adds (names_of (forms_of all))) blank before
  pub agrees : Agrees (point_of before) src

pub saying_starts : (all : List (List Tok)) (src : Source) → all_formed all ≡ true → first_line line_round [] all ≡ None → src ≡ blank → Saying all all src
saying_starts all src formed fine e =
    record { before = []; going = going_starts (name_round (forms_of all)) all formed; fine = fine; source = e; agrees = subst (λ p. Agrees (point_of []) p) (sym e) agrees_blank }

pub saying_room : (all left left′ : List (List Tok)) (held : List Tok) (src : Source) (l : Line) → Saying all left src → IsNext left left′ held → form_of held ≡ Some l → HasRoom src l
saying_room all left left′ held src l s n f =
    let a = accepted_next s.before left left′ held n l f s.fine in
    room (point_of s.before) src l s.agrees a.may_stand a.has_room

-- the offence of the next line in the round of names
next_names : (all left left′ : List (List Tok)) (held : List Tok) (src : Source) (l : Line) (s : Saying all left src) (n : IsNext left left′ held) → form_of held ≡ Some l
    → name_round (forms_of all) s.before n.tokens (forms_of left′) ≡ line_read (names_of (forms_of all)) l
next_names all left left′ held src l s n f =
    let a = accepted_next s.before left left′ held n l f s.fine in
    ap (λ g. first_of (name_offence (names_of (forms_of all))) (slots_of_line g)) (form_held left left′ held n ∙ f)
    ∙ sym (line_names s.before (forms_of all) (forms_of left) l (sym s.going.whole) a.no_token)

-- a line that is read
read_of : (d : Declared) (l : Line) → line_read d l ≡ None → Reads d l
read_of d (variable n v) e = tt
read_of d (local n) e = tt
read_of d (task n) e = tt
read_of d (statement s) e = was_read (read_sentence d s) e

pub saying_goes : (all left left′ : List (List Tok)) (held : List Tok) (src src′ : Source) (l : Line) (u : Unit {0}) → Saying all left src → IsNext left left′ held → form_of held ≡ Some l
    → Adds (names_of (forms_of all)) l src (Ok u) src′ → Saying all left′ src′
saying_goes all left left′ held src src′ l u s n f t =
    let whole = forms_of all in
    let a = accepted_next s.before left left′ held n l f s.fine in
    let m = next_of left left′ held s.going.formed n in
    let same : m.line ≡ l = cc in
    let goes = going_goes (name_round whole) all left left′ held s.before s.going n m (next_names all left left′ held src l s n f ∙ t.0) in
    let agrees = agrees_on (names_of whole) (point_of s.before) src l s.agrees a.may_stand (read_of (names_of whole) l t.0) in
    record {
      before = s.before ++ l ∷ [];
      going = subst (λ k. GoingFrom (name_round whole) all left′ (s.before ++ k ∷ [])) same goes;
      fine = a.behind;
      source = t.1 ∙ ap (λ p. adds (names_of whole) p l) s.source ∙ sym (fold-append (adds (names_of whole)) blank s.before (l ∷ []));
      agrees = subst₂ Agrees (sym (point_snoc s.before l)) (sym t.1) agrees;
    }

pub saying_stops : (all left left′ : List (List Tok)) (held : List Tok) (src src′ : Source) (l : Line) (r : Refusal) → Saying all left src → IsNext left left′ held → form_of held ≡ Some l
    → Adds (names_of (forms_of all)) l src (Err r) src′ → first_line (name_round (forms_of all)) [] all ≡ Some r
saying_stops all left left′ held src src′ l r s n f t =
    going_stops (name_round (forms_of all)) all left left′ held r s.before s.going n (next_names all left left′ held src l s n f ∙ t)

pub saying_ends : (all left : List (List Tok)) (src : Source) → Saying all left src → left ≡ [] → (first_line (name_round (forms_of all)) [] all ≡ None) × (src ≡ source_of (forms_of all)) × Agrees (point_of (forms_of all)) src
saying_ends all left src s e =
    let ends = going_ends (name_round (forms_of all)) all left s.before s.going e in
    (ends.0, s.source ∙ ap (fold (adds (names_of (forms_of all))) blank) ends.1, subst (λ b. Agrees (point_of b) src) ends.1 s.agrees)
