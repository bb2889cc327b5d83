-- A visit from its begin to its end.
use Rattle.std.proofs.Common.{◌≡◌, ℕ, suc, ◌+◌, ◌-◌, ◌<◌, ◌≤◌, min, true, false, cond, eqb, ◌⊎◌, List, length, is_some, Some, None, Ok, Err, Option, Result, sym, refl, ap, ◌∙◌, inl, inr, subst, arith}
use Rattle.std.proofs.lemmas.Bool.{cases_lt, eq-eqb, ne_eqb, true≢false, false≢true}
use Rattle.program.specs.declared.statement.Index.{Index}
use Rattle.program.specs.declared.statement.Next.{Next}
use Rattle.program.specs.declared.statement.Statement.{Statement}
use Rattle.program.specs.Sound.{Source}
use Rattle.plain.specs.declared.machine.visits.Refusal.{Refusal}
use Rattle.plain.specs.Plain.{Plain, last_number, after_visit, visits}
use Rattle.plain.specs.Series.{after_rows}
use Rattle.plain.specs.Steps.{Standing, coming, step_by, stepped, ends}
use Rattle.plain.specs.Machines.{Continues, Running, Visited, visit_refusal}
use Rattle.program.specs.Programs.{program_source}
use Rattle.plain.proofs.Series.{numbers_visits}
use Rattle.plain.proofs.Steps.{ends_on, ends_here}

-- a step that answers a statement, and one that does not
module _ (p q : Standing) (e : q ≡ stepped p) where
  pub goes : (o : Option Statement) → o ≡ coming p → is_some o ≡ true → (ends q ≡ ends p) × (length q.task - q.at < length p.task - p.at)
  goes (Some s) here some = ends_on p s (sym here) q e
  goes None here some = absurd (false≢true some)

  pub stops : (o : Option Statement) → o ≡ coming p → is_some o ≡ false → ends p ≡ q.run
  stops (Some s) here none = absurd (true≢false none)
  stops None here none =
      ends_here p (sym here) ∙ sym (ap (λ (r : Standing). r.run) (e ∙ ap (step_by p) (sym here)))

-- a visit that is not refused
below_last : (number : ℕ) (next : Next) (emitted variables : List ℕ) → visit_refusal (record { number = number; next = next; emitted = emitted; variables = variables }) ≡ None
    → number ≡ last_number → ⊥
below_last number (Next.Task t) emitted variables free last =
    let z : ◌≡◌ {A = Option Refusal} (Some Refusal.LastNumber) None = sym (ap (λ b. cond b (Some Refusal.LastNumber) None) (eq-eqb number last_number last)) ∙ free in
    cc
below_last number Next.Stopped emitted variables free last = cc

-- what comes next decides whether there is a visit
next_cases : (n : Next) → ((t : Index 16) × (n ≡ Next.Task t)) ⊎ (n ≡ Next.Stopped)
next_cases (Next.Task t) = inl (t, refl)
next_cases Next.Stopped = inr refl

refusal_at : (number : ℕ) (next : Next) (emitted variables : List ℕ) (t : Index 16) → next ≡ Next.Task t
    → visit_refusal (record { number = number; next = next; emitted = emitted; variables = variables }) ≡ cond (eqb number last_number) (Some Refusal.LastNumber) None
refusal_at number (Next.Task u) emitted variables t e = refl
refusal_at number Next.Stopped emitted variables t e = cc

stays : (p : Source) (row : List ℕ) (number : ℕ) (next : Next) (emitted variables : List ℕ) → next ≡ Next.Stopped
    → after_visit p row (record { number = number; next = next; emitted = emitted; variables = variables }) ≡ record { number = number; next = next; emitted = emitted; variables = variables }
stays p row number (Next.Task u) emitted variables e = cc
stays p row number Next.Stopped emitted variables e = refl

-- where a visit leads from m, made or refused
abbrev Leads : Source → List ℕ → Plain → Result (Unit {0}) Refusal → Plain → Type 0
Leads p row m (Ok u) n = (visit_refusal m ≡ None) × (n ≡ after_visit p row m)
Leads p row m (Err e) n = (visit_refusal m ≡ Some e) × (n ≡ m)

leads : (row : List ℕ) (m n : Running) (r : Result (Unit {0}) Refusal) → Visited row m r n → Leads (program_source m.program) row m.state r n.state
leads row m n (Ok u) (free, went) = (free, ap (λ (o : Running). o.state) went)
leads row m n (Err e) (refused, same) = (refused, ap (λ (o : Running). o.state) same)

same_program : (row : List ℕ) (m n : Running) (r : Result (Unit {0}) Refusal) → Visited row m r n → n.program ≡ m.program
same_program row m n (Ok u) (free, went) = ap (λ (o : Running). o.program) went
same_program row m n (Err e) (refused, same) = ap (λ (o : Running). o.program) same

-- One visit more of a series, made or refused.
module _ (p : Source) (rows : ℕ → List ℕ) (i : ℕ) (m n : Plain) (so_far : m ≡ after_rows p rows i) where
  numbered : (t : Index 16) → m.next ≡ Next.Task t → m.number ≡ min i last_number
  numbered t goes = ap (λ (o : Plain). o.number) so_far ∙ numbers_visits p rows (min i last_number) t (sym (ap (λ (o : Plain). o.next) so_far) ∙ goes)

  before_last : i < last_number → after_visit p (rows i) m ≡ after_rows p rows (i + 1)
  before_last h =
      let here : min i last_number ≡ i = omega arith in
      let next : min (i + 1) last_number ≡ suc i = omega arith in
      ap (after_visit p (rows i)) (so_far ∙ ap (visits p rows) here) ∙ ap (visits p rows) (sym next)

  past_last : last_number ≤ i → m ≡ after_rows p rows (i + 1)
  past_last h = let same : min i last_number ≡ min (i + 1) last_number = omega arith in so_far ∙ ap (visits p rows) same

  -- before the last number only a stop is a reason to refuse
  free_before : i < last_number → (t : Index 16) → m.next ≡ Next.Task t → visit_refusal m ≡ None
  free_before h t goes =
      let number = numbered t goes in
      refusal_at m.number m.next m.emitted m.variables t goes
      ∙ ap (λ b. cond b (Some Refusal.LastNumber) None) (ne_eqb m.number last_number (λ last. omega arith))

  series_on : (r : Result (Unit {0}) Refusal) → Leads p (rows i) m r n → n ≡ after_rows p rows (i + 1)
  series_on (Ok u) (free, went) =
      elim (cases_lt i last_number) [
        | inl h ↦ went ∙ before_last h
        | inr h ↦ elim (next_cases m.next) [
          | inl t ↦ absurd (below_last m.number m.next m.emitted m.variables free (numbered t.0 t.1 ∙ omega arith))
          | inr stopped ↦ went ∙ stays p (rows i) m.number m.next m.emitted m.variables stopped ∙ past_last h
        ]
      ]
  series_on (Err e) (refused, same) =
      elim (cases_lt i last_number) [
        | inl h ↦ elim (next_cases m.next) [
          | inl t ↦
              let no : ◌≡◌ {A = Option Refusal} None (Some e) = sym (free_before h t.0 t.1) ∙ refused in
              cc
          | inr stopped ↦ same ∙ sym (stays p (rows i) m.number m.next m.emitted m.variables stopped) ∙ before_last h
        ]
        | inr h ↦ same ∙ past_last h
      ]

pub continues : (row : List ℕ) (m n : Running) (r : Result (Unit {0}) Refusal) → Visited row m r n → Continues row m n
continues row m n r visited = record {
  program = same_program row m n r visited;
  state = λ rows i here so_far.
      series_on (program_source m.program) rows i m.state n.state so_far r (subst (λ (row : List ℕ). Leads (program_source m.program) row m.state r n.state) here (leads row m n r visited));
}
