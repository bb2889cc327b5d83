-- The round of lines, line after line.
use Rattle.std.proofs.Common.{arith, ◌≡◌, refl, sym, ap, ap₂, append_assoc, ◌∙◌, ◌+◌, false, cond, List, [], ◌∷◌, ◌++◌, take, Option, Some, None, Ok, Err, append-nil}
use Rattle.std.specs.List.{cons_option, filter_map, count_by}
use Rattle.std.specs.Option.{option_or}
use Rattle.std.proofs.lemmas.List.Elements.{filter_map-append}
use Rattle.std.proofs.lemmas.List.Sums.{fold-append, sum_by-append}
use Rattle.text.specs.declared.refusal.Refusal.{Refusal}
use Rattle.text.specs.Tokens.{Tok, first_place}
use Rattle.text.specs.Reading.{IsNext}
use Rattle.forms.specs.Forms.{Line, variable, local, task, statement, form_of}
use Rattle.forms.proofs.Forms.{form_of_first_seven}
use Rattle.grammar.specs.Names.{local_name, names_of, task_name, variable_name}
use Rattle.grammar.specs.Judging.{Point, counted, is_statement, judged, leaves_open, line_offence, point_of}
use Rattle.grammar.specs.Standing.{Takes, after, declaring}
use Rattle.rounds.specs.Rounds.{first_line, forms_of, line_round}

-- a line on
names_snoc : (before : List Line) (l : Line) → names_of (before ++ l ∷ []) ≡ declaring l (names_of before)
names_snoc before (variable n v) = λ i. record {
  variables = filter_map-append variable_name before (variable n v ∷ []) i;
  locals = (filter_map-append local_name before (variable n v ∷ []) ∙ append-nil (filter_map local_name before)) i;
  tasks = (filter_map-append task_name before (variable n v ∷ []) ∙ append-nil (filter_map task_name before)) i;
}
names_snoc before (local n) = λ i. record {
  variables = (filter_map-append variable_name before (local n ∷ []) ∙ append-nil (filter_map variable_name before)) i;
  locals = filter_map-append local_name before (local n ∷ []) i;
  tasks = (filter_map-append task_name before (local n ∷ []) ∙ append-nil (filter_map task_name before)) i;
}
names_snoc before (task n) = λ i. record {
  variables = (filter_map-append variable_name before (task n ∷ []) ∙ append-nil (filter_map variable_name before)) i;
  locals = (filter_map-append local_name before (task n ∷ []) ∙ append-nil (filter_map local_name before)) i;
  tasks = filter_map-append task_name before (task n ∷ []) i;
}
names_snoc before (statement s) = λ i. record {
  variables = (filter_map-append variable_name before (statement s ∷ []) ∙ append-nil (filter_map variable_name before)) i;
  locals = (filter_map-append local_name before (statement s ∷ []) ∙ append-nil (filter_map local_name before)) i;
  tasks = (filter_map-append task_name before (statement s ∷ []) ∙ append-nil (filter_map task_name before)) i;
}

statements_snoc : (before : List Line) (l : Line) → count_by is_statement (before ++ l ∷ []) ≡ cond (is_statement l) (count_by is_statement before + 1) (count_by is_statement before)
statements_snoc before (variable n v) = grind (arith, sum_by-append (λ m. cond (is_statement m) 1 0) before (variable n v ∷ []))
statements_snoc before (local n) = grind (arith, sum_by-append (λ m. cond (is_statement m) 1 0) before (local n ∷ []))
statements_snoc before (task n) = grind (arith, sum_by-append (λ m. cond (is_statement m) 1 0) before (task n ∷ []))
statements_snoc before (statement s) = grind (arith, sum_by-append (λ m. cond (is_statement m) 1 0) before (statement s ∷ []))

pub point_snoc : (before : List Line) (l : Line) → point_of (before ++ l ∷ []) ≡ after l (point_of before)
point_snoc before l = λ i. record {
  names = names_snoc before l i;
  unfinished = fold-append (λ b m. leaves_open m) false before (l ∷ []) i;
  statements = statements_snoc before l i;
  size = fold-append counted 0 before (l ∷ []) i;
}

pub first_place_seven : (ts : List Tok) → first_place (take 7 ts) ≡ first_place ts
first_place_seven [] = refl
first_place_seven (t ∷ ts) = refl

pub line_offence_seven : (p : Point) (ts : List Tok) → line_offence p (take 7 ts) ≡ line_offence p ts
line_offence_seven p ts = ap (judged p (first_place (take 7 ts))) (form_of_first_seven ts) ∙ ap (λ place. judged p place (form_of ts)) (first_place_seven ts)

-- What is left of a round once a line is past.
pub first_line_goes : (offence : List Line → List Tok → List Line → Option Refusal) (before : List Line) (ts : List Tok) (l : Line) (ls : List (List Tok)) → offence before ts (forms_of ls) ≡ None → form_of ts ≡ Some l
    → first_line offence before (ts ∷ ls) ≡ first_line offence (before ++ l ∷ []) ls
unfolding first_line
first_line_goes offence before ts l ls e f = ap₂ (λ o g. option_or o (first_line offence (before ++ cons_option g []) ls)) e f

pub first_line_stops : (offence : List Line → List Tok → List Line → Option Refusal) (before : List Line) (ts : List Tok) (ls : List (List Tok)) (r : Refusal) → offence before ts (forms_of ls) ≡ Some r
    → first_line offence before (ts ∷ ls) ≡ Some r
unfolding first_line
first_line_stops offence before ts ls r e = ap (λ o. option_or o (first_line offence (before ++ forms_of (ts ∷ [])) ls)) e

pub first_line_ends : (offence : List Line → List Tok → List Line → Option Refusal) (before : List Line) → first_line offence before [] ≡ None
unfolding first_line
first_line_ends offence before = refl

-- the next line's form, and the lines behind it
pub forms_go : (ts : List Tok) (l : Line) (ls : List (List Tok)) → form_of ts ≡ Some l → forms_of (ts ∷ ls) ≡ l ∷ forms_of ls
forms_go ts l ls e = ap (λ g. cons_option g (forms_of ls)) e

pub snoc_cons : {A : Type 0} (before : List A) (l : A) (behind : List A) → before ++ l ∷ [] ++ behind ≡ before ++ (l ∷ behind)
snoc_cons before l behind = append_assoc before (l ∷ []) behind

-- What holds with these lines left of all: a point that the lines before them come to.
pub record Judging (all left : List (List Tok)) (p : Point) : Type 0 where
  pub before : List Line
  pub stands : p ≡ point_of before
  pub rest : first_line line_round before left ≡ first_line line_round [] all
  pub whole : before ++ forms_of left ≡ forms_of all

pub judging_starts : (all : List (List Tok)) (p : Point) → p ≡ point_of [] → Judging all all p
judging_starts all p e = record { before = []; stands = e; rest = refl; whole = refl }

-- a line's offence is that of its first seven tokens
judged_whole : (before : List Line) (ts held : List Tok) (p : Point) → p ≡ point_of before → held ≡ take 7 ts → line_offence (point_of before) ts ≡ line_offence p held
judged_whole before ts held p stands seven = sym (line_offence_seven (point_of before) ts) ∙ sym (ap₂ line_offence stands seven)

pub judging_goes : (all left left′ : List (List Tok)) (held : List Tok) (p q : Point) (u : Unit {0}) → Judging all left p → IsNext left left′ held → Takes p held (Ok u) q → Judging all left′ q
judging_goes all left left′ held p q u j n t =
    let l = t.1.0 in
    let has : form_of n.tokens ≡ Some l = sym (form_of_first_seven n.tokens) ∙ sym (ap form_of n.first_seven) ∙ t.1.1 in
    let fine : line_round j.before n.tokens (forms_of left′) ≡ None = judged_whole j.before n.tokens held p j.stands n.first_seven ∙ t.0 in
    record {
      before = j.before ++ l ∷ [];
      stands = t.1.2 ∙ ap (after l) j.stands ∙ sym (point_snoc j.before l);
      rest = sym (first_line_goes line_round j.before n.tokens l left′ fine has) ∙ sym (ap (first_line line_round j.before) n.next) ∙ j.rest;
      whole = snoc_cons j.before l (forms_of left′) ∙ ap (λ b. j.before ++ b) (sym (forms_go n.tokens l left′ has) ∙ sym (ap forms_of n.next)) ∙ j.whole;
    }

pub judging_stops : (all left left′ : List (List Tok)) (held : List Tok) (p q : Point) (e : Refusal) → Judging all left p → IsNext left left′ held → Takes p held (Err e) q → first_line line_round [] all ≡ Some e
judging_stops all left left′ held p q e j n t =
    sym j.rest ∙ ap (first_line line_round j.before) n.next ∙ first_line_stops line_round j.before n.tokens left′ e (judged_whole j.before n.tokens held p j.stands n.first_seven ∙ t.0)

-- no line offends
pub judging_ends : (all left : List (List Tok)) (p : Point) → Judging all left p → left ≡ [] → (first_line line_round [] all ≡ None) × (p ≡ point_of (forms_of all))
judging_ends all left p j e = (
  sym j.rest ∙ ap (first_line line_round j.before) e ∙ first_line_ends line_round j.before,
  j.stands ∙ ap point_of (sym (append-nil j.before) ∙ sym (ap (λ ls. j.before ++ forms_of ls) e) ∙ j.whole),
)
