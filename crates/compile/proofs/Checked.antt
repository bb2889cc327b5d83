-- The round of tasks: what the making of the program tells.
use Rattle.std.proofs.Common.{arith, inl, inr, ◌≡◌, refl, sym, ap, ap₂, subst, ◌∙◌, ℕ, ◌<◌, ◌≤◌, true, false, ◌&&◌, ◌==◌, leb, ltb, List, [], length, length-take, get_or, Some, None, Ok, Err}
use Rattle.std.proofs.lemmas.Bool.{and_parts, cases_lt, or_parts, le-leb, lt-ltb}
use Rattle.std.proofs.lemmas.List.{get_or-map, length-map}
use Rattle.words.specs.Lists.{items}
use Rattle.program.specs.declared.draft.Draft.{Draft}
use Rattle.program.specs.declared.span.Span.{Span}
use Rattle.program.specs.declared.statement.Statement.{Statement}
use Rattle.program.specs.declared.draft.build.Flaw.{Flaw}
use Rattle.program.specs.declared.program.Program.{Program}
use Rattle.program.specs.declared.statement.Index.{Index}
use Rattle.program.specs.Programs.{Made}
use Rattle.program.specs.Spans.{part}
use Rattle.program.specs.Sound.{Source, all_placed, few_emits, scope_of, sound, sound_at, task_of}
use Rattle.program.specs.Drafts as program
use Rattle.program.specs.Drafts.{IsFirstFlawed}
use Rattle.program.proofs.Spans.{span_inside}
use Rattle.program.proofs.Programs.{task_at}
use Rattle.text.specs.declared.refusal.Refusal.{Refusal}
use Rattle.text.specs.Refusals.{nowhere}
use Rattle.text.specs.Tokens.{Tok}
use Rattle.forms.specs.Forms.{Line}
use Rattle.grammar.specs.Names.{names_of}
use Rattle.grammar.specs.Judging.{point_of}
use Rattle.rounds.specs.Source.{source_of}
use Rattle.rounds.specs.Rounds.{emits_round, first_line, forms_of}
use Rattle.compile.specs.Passes.{Checked, Fine, task_place, task_places}
use Rattle.compile.proofs.Emits.{many_emits, none_emits}
use Rattle.compile.proofs.Parts.{scope_said}
use Rattle.compile.proofs.Structure.{well_placed}

true_false : true ≡ false → ⊥
true_false e = cc

-- a draft's tasks have at most 64 statements
pub draft_short : (d : Draft) (t : ℕ) → t < length (program.source_of d).tasks → length (task_of (program.source_of d) t) ≤ 64
draft_short d t l =
    let table : List Statement = items d.statements in
    let spans : List Span = items d.spans in
    let none : Span = record { first = 0; size = 0 } in
    let count = length-map spans (part table) in
    let within : t < length spans = omega arith in
    let small = (span_inside 0 (length table) spans d.laid t none within).1 in
    rw (get_or-map (part table) spans t none [] within) (simp length-take (omega arith))

module _ (lines : List (List Tok)) (fine : Fine lines) where
  abbrev whole : List Line
  whole = forms_of lines

  abbrev src : Source
  src = source_of whole

  -- as many tasks as are declared
  declared_tasks : length src.tasks ≡ length (names_of whole).tasks
  declared_tasks = ap (λ s. s.tasks) (scope_said whole)

  some_tasks : 0 < length src.tasks
  some_tasks =
      let e = declared_tasks in
      elim (cases_lt 0 (length src.tasks)) [
        | inl some ↦ some
        | inr none ↦
            let zero : length (names_of whole).tasks ≡ 0 = omega arith in
            absurd (true_false (sym (ap (λ n. n == 0) zero) ∙ (or_parts (length (names_of whole).tasks == 0) (point_of whole).unfinished fine.ended).0))
      ]

  few_of : (t : ℕ) → sound_at src t ≡ true → few_emits (task_of src t) ≡ true
  few_of t h = (and_parts (all_placed (scope_of src) (task_of src t)) _ (and_parts (ltb 0 (length (task_of src t)) && leb (length (task_of src t)) 64) _ h).1).1

  -- a task that is not well formed has a path with too many emits
  many_of : (t : ℕ) → t < length src.tasks → length (task_of src t) ≤ 64 → sound_at src t ≡ false → few_emits (task_of src t) ≡ false
  many_of t l short h =
      let task = task_of src t in
      let w = well_placed lines fine.judged fine.ended fine.named fine.skips t l in
      sym (ap₂ (λ a b. (a && b) && (all_placed (scope_of src) task && few_emits task)) (lt-ltb 0 (length task) w.0) (le-leb (length task) 64 short) ∙ ap (λ a. a && few_emits task) w.1) ∙ h

  pub checked_fine : sound src ≡ true → first_line (emits_round whole) [] lines ≡ None
  checked_fine h = none_emits whole [] lines (λ t l. let e = declared_tasks in few_of t (task_at src h t (omega arith)))

  pub checked_flawed : (t : ℕ) → ((u : ℕ) → u < length src.tasks → length (task_of src u) ≤ 64) → IsFirstFlawed src t → first_line (emits_round whole) [] lines ≡ Some (Refusal.Emits (task_place lines t))
  checked_flawed t short f =
      let e = declared_tasks in
      let there = f.there in
      many_emits whole t (λ u l. few_of u (f.before u l)) (many_of t f.there (short t f.there) f.flawed) [] lines (omega arith) (omega arith)
      ∙ ap (λ k. Some (Refusal.Emits (get_or (task_places lines) k nowhere))) (omega arith)

  module _ (d : Draft) (says : program.source_of d ≡ src) where
    pub made_fine : (p : Program) → Made (program.source_of d) (Ok p) → Checked lines (Ok p)
    made_fine p m = (checked_fine (sym (ap sound says) ∙ m.0), m.1 ∙ says)

    pub made_flawed : (t : Index 16) → Made (program.source_of d) (Err (Flaw.Malformed t)) → Checked lines (Err (Refusal.Emits (task_place lines t.number)))
    made_flawed t m = checked_flawed t.number short (subst (λ p. IsFirstFlawed p t.number) says m)
      where
        short : (u : ℕ) → u < length src.tasks → length (task_of src u) ≤ 64
        short u l = subst (λ p. length (task_of p u) ≤ 64) says (draft_short d u (subst (λ p. u < length p.tasks) (sym says) l))

    -- no other flaw is left
    pub made_whole : (f : Flaw) → Made (program.source_of d) (Err f) → ((t : Index 16) → f ≡ Flaw.Malformed t → ⊥) → ⊥
    made_whole Flaw.Variables m other = m
    made_whole Flaw.Locals m other = m
    made_whole Flaw.Tasks m other = m
    made_whole Flaw.Statements m other = m
    made_whole Flaw.NoTask m other = let some = some_tasks in let none = sym (ap (λ p. length p.tasks) says) ∙ m in omega arith
    made_whole (Flaw.Malformed t) m other = other t refl
