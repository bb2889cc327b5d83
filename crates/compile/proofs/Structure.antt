-- The program of an accepted text is well formed but for emits.
use Rattle.std.proofs.Common.{arith, ◌≡◌, refl, sym, ap, ap₂, subst, ◌∙◌, ℕ, ◌<◌, Bool, true, false, ◌==◌, cond, List, [], ◌∷◌, ◌++◌, length, length-append, take, slice_index_or, append-nil, Some, None}
use Rattle.std.specs.List.{list_any}
use Rattle.std.proofs.lemmas.Bool.{eqb-true, not-true, or_parts}
use Rattle.program.specs.Sound.{all_placed, scope_of, task_of}
use Rattle.text.specs.declared.refusal.Refusal.{Refusal}
use Rattle.text.specs.Tokens.{Tok}
use Rattle.forms.specs.Forms.{Line, variable, local, task, statement, slots}
use Rattle.grammar.specs.Names.{Declared, names_of}
use Rattle.grammar.specs.Reading.{first_of, name_offence, read_sentence, slot_offence}
use Rattle.grammar.specs.Judging.{Point, allowed, is_unfinished, leaves_open, point_of}
use Rattle.grammar.specs.Standing.{after}
use Rattle.rounds.specs.Source.{source_of}
use Rattle.rounds.specs.Rounds.{first_line, forms_of, is_ending, line_round, name_round, passed_behind, skip_round, slots_of_line}
use Rattle.compile.proofs.Judging.{forms_go, point_snoc, snoc_cons}
use Rattle.compile.proofs.Agreeing.{Reads}
use Rattle.compile.proofs.Accepting.{Fits, line_fits, none_offends}
use Rattle.compile.proofs.Sentences.{sentence_offence, was_read}
use Rattle.compile.proofs.Parts.{scope_said, tasks_in, tasks_said}
use Rattle.compile.proofs.Orderly.{Good, Orderly, all_good}

-- no skip passes over an ending
skips_fine : (b : Bool) (r : Refusal) → cond b (Some r) None ≡ None → b ≡ false
skips_fine true r h = absurd (cc)
skips_fine false r h = refl

-- what the rounds of lines and of names pass is read with the names of the whole text
pub reads_line : (whole before more : List Line) (l : Line) → whole ≡ before ++ more → first_of (slot_offence (names_of before)) (slots l) ≡ None → first_of (name_offence (names_of whole)) (slots l) ≡ None → Reads (names_of whole) l
reads_line whole before more (variable n v) e h k = tt
reads_line whole before more (local n) e h k = tt
reads_line whole before more (task n) e h k = tt
reads_line whole before more (statement s) e h k = was_read (read_sentence (names_of whole) s) (sentence_offence before whole more s e h ∙ k)

-- A task that is unfinished is declared.
abbrev Opened : Point → Type 0
Opened p = p.unfinished ≡ true → 0 < length p.names.tasks

opened_on : (p : Point) (l : Line) → Opened p → allowed p l ≡ true → Opened (after l p)
opened_on p (variable n v) o a = λ u. absurd (cc)
opened_on p (local n) o a = λ u. absurd (cc)
opened_on p (task n) o a = λ u. simp length-append (omega arith)
opened_on p (statement s) o a = λ u. o a

-- declarations stand where no task is unfinished
none_unfinished : (n : ℕ) (u : Bool) → (u ≡ true → 0 < n) → (n == 0) ≡ true → u ≡ false
none_unfinished n true o e = let some = o refl in let none = eqb-true n 0 e in absurd (omega arith)
none_unfinished n false o e = refl

-- a line before those behind it
in_order : (d : Declared) (p : Point) (l : Line) (behind : List Line) → Opened p → allowed p l ≡ true → Reads d l → list_any is_ending (take (passed_behind (Some l)) behind) ≡ false → Orderly d (leaves_open l) behind → Orderly d p.unfinished (l ∷ behind)
in_order d p (variable n v) behind o a r k on = (none_unfinished (length p.names.tasks) p.unfinished o a, on)
in_order d p (local n) behind o a r k on = (none_unfinished (length p.names.tasks) p.unfinished o a, on)
in_order d p (task n) behind o a r k on = (not-true p.unfinished a, on)
in_order d p (statement s) behind o a r k on = (a, r, k, on)

module _ (whole : List Line) (ends : is_unfinished (point_of whole) ≡ false) where
  -- the lines that are left, behind those that stand before them
  orderly : (left : List (List Tok)) (before : List Line) → Opened (point_of before) → whole ≡ before ++ forms_of left
      → first_line line_round before left ≡ None → first_line (name_round whole) before left ≡ None → first_line skip_round before left ≡ None
      → Orderly (names_of whole) (point_of before).unfinished (forms_of left)
  orderly [] before o e lines names skips =
      let same : whole ≡ before = e ∙ append-nil before in
      ap (λ ls. (point_of ls).unfinished) (sym same) ∙ (or_parts (length (names_of whole).tasks == 0) (point_of whole).unfinished ends).1
  orderly (ts ∷ ls) before o e lines names skips =
      let line = none_offends line_round before ts ls lines in
      let name = none_offends (name_round whole) before ts ls names in
      let skip = none_offends skip_round before ts ls skips in
      let next : Fits (point_of before) ts = line_fits (point_of before) ts line.0 in
      let l : Line = next.line in
      let behind : forms_of (ts ∷ ls) ≡ l ∷ forms_of ls = forms_go ts l ls next.has in
      let longer : before ++ forms_of (ts ∷ []) ≡ before ++ l ∷ [] = ap (λ f. before ++ f) (forms_go ts l [] next.has) in
      let said : whole ≡ before ++ (l ∷ forms_of ls) = e ∙ ap (λ f. before ++ f) behind in
      let named : first_of (name_offence (names_of whole)) (slots l) ≡ None = sym (ap (λ f. first_of (name_offence (names_of whole)) (slots_of_line f)) next.has) ∙ name.0 in
      let near : list_any is_ending (take (passed_behind (Some l)) (forms_of ls)) ≡ false =
      sym (ap (λ f. list_any is_ending (take (passed_behind f) (forms_of ls))) next.has) ∙ skips_fine _ _ skip.0 in
      let on = orderly ls (before ++ l ∷ []) (subst Opened (sym (point_snoc before l)) (opened_on (point_of before) l o next.may))
      (said ∙ sym (snoc_cons before l (forms_of ls)))
      (ap (λ b. first_line line_round b ls) (sym longer) ∙ line.1)
      (ap (λ b. first_line (name_round whole) b ls) (sym longer) ∙ name.1)
      (ap (λ b. first_line skip_round b ls) (sym longer) ∙ skip.1) in
      subst (Orderly (names_of whole) (point_of before).unfinished) (sym behind)
      (in_order (names_of whole) (point_of before) l (forms_of ls) o next.may (reads_line whole before (l ∷ forms_of ls) l said next.fine named) near
      (subst (λ p. Orderly (names_of whole) p.unfinished (forms_of ls)) (point_snoc before l) on))

-- Each task has a statement, what its statements name is declared, its last statement is its only ending, and no skip leads beyond it.
pub well_placed : (lines : List (List Tok)) → let whole = forms_of lines in
    first_line line_round [] lines ≡ None → is_unfinished (point_of whole) ≡ false → first_line (name_round whole) [] lines ≡ None → first_line skip_round [] lines ≡ None
    → (t : ℕ) → t < length (source_of whole).tasks
    → (0 < length (task_of (source_of whole) t)) × (all_placed (scope_of (source_of whole)) (task_of (source_of whole) t) ≡ true)
well_placed lines round ends names skips t l =
    let whole : List Line = forms_of lines in
    let d : Declared = names_of whole in
    let said = tasks_said whole in
    let o : Orderly d false whole = orderly whole ends lines [] (λ u. absurd (cc (u))) refl round names skips in
    let good : Good d (slice_index_or (tasks_in d whole) t []) = all_good d false whole o t (rw (← said) l) in
    let task : task_of (source_of whole) t ≡ slice_index_or (tasks_in d whole) t [] = ap (λ ts. slice_index_or ts t []) said in
    (subst (λ s. 0 < length s) (sym task) good.0, ap₂ all_placed (scope_said whole) task ∙ good.1)
