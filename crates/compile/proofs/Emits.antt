-- The round of tasks: the first line of a task with a path of too many emits.
use Rattle.std.proofs.Common.{arith, append-nil, inl, inr, ◌≡◌, refl, sym, ap, ap₂, ◌∙◌, ℕ, suc, ◌+◌, ◌-◌, ◌<◌, ◌≤◌, Bool, true, false, cond, List, [], ◌∷◌, ◌++◌, length, length-append, get_or, Option, Some, None}
use Rattle.std.specs.List.{cons_option, filter_map}
use Rattle.std.specs.Option.{option_or}
use Rattle.std.proofs.lemmas.Bool.{cases_lt}
use Rattle.std.proofs.lemmas.List.Elements.{filter_map-append}
use Rattle.text.specs.Refusals.{nowhere}
use Rattle.text.specs.declared.refusal.Place.{Place}
use Rattle.text.specs.declared.refusal.Refusal.{Refusal}
use Rattle.text.specs.Tokens.{Tok, first_place}
use Rattle.forms.specs.Forms.{Line, variable, local, task, statement, form_of}
use Rattle.program.specs.Sound.{few_emits, task_of}
use Rattle.grammar.specs.Names.{task_name}
use Rattle.rounds.specs.Source.{source_of}
use Rattle.rounds.specs.Rounds.{emits_offence, emits_round, first_line, forms_of}
use Rattle.compile.specs.Passes.{place_of_task, task_places}

-- how many tasks lines declare
abbrev task_count : List Line → ℕ
task_count lines = length (filter_map task_name lines)

-- whether task t has few emits
abbrev few : List Line → ℕ → Bool
few whole t = few_emits (task_of (source_of whole) t)

-- a line on
tasks_snoc : (before : List Line) (l : Line) → task_count (before ++ l ∷ []) ≡ task_count before + task_count (l ∷ [])
tasks_snoc before l = ap length (filter_map-append task_name before (l ∷ [])) ∙ length-append (filter_map task_name before) (filter_map task_name (l ∷ []))

tasks_cons : (l : Line) (lines : List Line) → task_count (l ∷ lines) ≡ task_count (l ∷ []) + task_count lines
tasks_cons (variable n v) lines = omega arith
tasks_cons (local n) lines = omega arith
tasks_cons (task n) lines = omega arith
tasks_cons (statement s) lines = omega arith

tasks_on : (before : List Line) (o : Option Line) (lines : List Line) → task_count before + task_count (cons_option o lines) ≡ task_count (before ++ cons_option o []) + task_count lines
tasks_on before None lines = ap (λ b. task_count b + task_count lines) (sym (append-nil before))
tasks_on before (Some l) lines = let snoc = tasks_snoc before l in let cons = tasks_cons l lines in omega arith

module _ (whole : List Line) where
  none_line : (before : List Line) (place : Place) (o : Option Line) (lines : List Line) → ((t : ℕ) → t < task_count before + task_count (cons_option o lines) → few whole t ≡ true) → emits_offence whole before place o ≡ None
  none_line before place None lines h = refl
  none_line before place (Some (variable n v)) lines h = refl
  none_line before place (Some (local n)) lines h = refl
  none_line before place (Some (task n)) lines h = ap (λ b. cond b None (Some (Refusal.Emits place))) (h (task_count before) (omega arith))
  none_line before place (Some (statement s)) lines h = refl

  -- no task has too many
  pub none_emits : (before : List Line) (left : List (List Tok)) → ((t : ℕ) → t < task_count before + task_count (forms_of left) → few whole t ≡ true) → first_line (emits_round whole) before left ≡ None
  unfolding first_line
  none_emits before [] h = refl
  none_emits before (ts ∷ left) h =
      let on = tasks_on before (form_of ts) (forms_of left) in
      ap₂ option_or (none_line before (first_place ts) (form_of ts) (forms_of left) h) (none_emits (before ++ cons_option (form_of ts) []) left (λ t l. h t (omega arith)))

  module _ (t : ℕ) (few_before : (u : ℕ) → u < t → few whole u ≡ true) (many : few whole t ≡ false) where
    -- where task t stands among these places, with so many tasks before them
    abbrev told : List Place → ℕ → Option Refusal
    told places passed = Some (Refusal.Emits (get_or places (t - passed) nowhere))

    at_task : (passed : ℕ) (place : Place) (places : List Place) (rest : Option Refusal) → passed ≤ t → (passed + 1 ≤ t → rest ≡ told places (passed + 1))
        → option_or (cond (few whole passed) None (Some (Refusal.Emits place))) rest ≡ told (place ∷ places) passed
    at_task passed place places rest l on = elim (cases_lt passed t) [
      | inl less ↦
          let further : t - passed ≡ suc (t - (passed + 1)) = omega arith in
          ap (λ b. option_or (cond b None (Some (Refusal.Emits place))) rest) (few_before passed less) ∙ on (omega arith) ∙ ap (λ k. Some (Refusal.Emits (get_or (place ∷ places) k nowhere))) (sym further)
      | inr reached ↦
          let same : passed ≡ t = omega arith in
          let here : t - passed ≡ 0 = omega arith in
          ap (λ b. option_or (cond b None (Some (Refusal.Emits place))) rest) (ap (few whole) same ∙ many) ∙ ap (λ k. Some (Refusal.Emits (get_or (place ∷ places) k nowhere))) (sym here)
    ]

    carried : (places : List Place) (rest : Option Refusal) (m n : ℕ) → m ≡ n → n ≤ t → (m ≤ t → rest ≡ told places m) → rest ≡ told places n
    carried places rest m n e l on = on (omega arith) ∙ ap (told places) e

    many_line : (before : List Line) (place : Place) (o : Option Line) (places : List Place) (rest : Option Refusal) → task_count before ≤ t
        → (task_count (before ++ cons_option o []) ≤ t → rest ≡ told places (task_count (before ++ cons_option o [])))
        → option_or (emits_offence whole before place o) rest ≡ told (cons_option (place_of_task place o) places) (task_count before)
    many_line before place None places rest l on = carried places rest _ (task_count before) (ap task_count (append-nil before)) l on
    many_line before place (Some (variable n v)) places rest l on = let e = tasks_snoc before (variable n v) in carried places rest _ (task_count before) (omega arith) l on
    many_line before place (Some (local n)) places rest l on = let e = tasks_snoc before (local n) in carried places rest _ (task_count before) (omega arith) l on
    many_line before place (Some (task n)) places rest l on =
        let e = tasks_snoc before (task n) in
        at_task (task_count before) place places rest l (λ m. carried places rest _ (task_count before + 1) (omega arith) m on)
    many_line before place (Some (statement s)) places rest l on = let e = tasks_snoc before (statement s) in carried places rest _ (task_count before) (omega arith) l on

    -- task t is the first that has too many
    pub many_emits : (before : List Line) (left : List (List Tok)) → task_count before ≤ t → t < task_count before + task_count (forms_of left) → first_line (emits_round whole) before left ≡ told (task_places left) (task_count before)
    unfolding first_line
    many_emits before [] l m = absurd (omega arith)
    many_emits before (ts ∷ left) l m =
        let on = tasks_on before (form_of ts) (forms_of left) in
        many_line before (first_place ts) (form_of ts) (task_places left) (first_line (emits_round whole) (before ++ cons_option (form_of ts) []) left) l
        (λ k. many_emits (before ++ cons_option (form_of ts) []) left k (omega arith))
