-- One statement of a run on.
use Rattle.std.proofs.Common.{◌≡◌, inl, inr, ℕ, ◌+◌, ◌-◌, ◌<◌, ◌≤◌, List, length, drop, Some, None, sym, ap, ◌∙◌, subst, ap₂, arith}
use Rattle.std.specs.List.{slice_get}
use Rattle.std.proofs.lemmas.List.{drop_all}
use Rattle.std.proofs.lemmas.Option.{get_or_from_slice_get, slice_get_cases, slice_get_within}
use Rattle.words.specs.Lists.{items}
use Rattle.program.specs.declared.statement.Statement.{Statement}
use Rattle.program.specs.Shapes.{emits}
use Rattle.program.specs.Runs.{after, passes, taken, exec}
use Rattle.program.specs.Paths.{emitted_on}
use Rattle.laws.proofs.Runs.{taken_on, exec_on}
use Rattle.laws.proofs.Kept.{emitted_after}
use Rattle.plain.specs.declared.frame.Frame.{Frame}
use Rattle.plain.specs.Frames.{run_of, Room}
use Rattle.plain.specs.Steps.{Standing, coming, step_by, stepped, ends}

module _ (task : List Statement) (i : ℕ) (f : Frame) (s : Statement) (here : slice_get task i ≡ Some s) (room : Room task i f) where
  rest : emitted_on (taken 0 (drop i task) (run_of f)) ≡ emits s + emitted_on (taken 0 (drop (i + 1 + passes s (run_of f)) task) (after s (run_of f)))
  rest = ap emitted_on (taken_on task i (run_of f) s s (slice_get_within task i s here) (sym (get_or_from_slice_get task i s s here)))

  pub room_here : length (items f.emitted) + emits s ≤ 8
  room_here = let r = rest in omega arith

  pub room_on : (g : Frame) (n : ℕ) → run_of g ≡ after s (run_of f) → n ≡ i + 1 + passes s (run_of f) → Room task n g
  room_on g n did at =
      let r = rest in
      let more = emitted_after s (run_of f) in
      let same = ap (λ σ. length σ.emitted) did in
      let same_rest = ap₂ (λ σ k. emitted_on (taken 0 (drop k task) σ)) did at in
      omega arith

-- A step does not alter where the run ends, and leaves less to do.
module _ (p : Standing) where
  pub ends_on : (s : Statement) → coming p ≡ Some s → (q : Standing) → q ≡ stepped p → (ends q ≡ ends p) × (length q.task - q.at < length p.task - p.at)
  ends_on s here q e =
      let within = slice_get_within p.task p.at s here in
      let moved : q ≡ step_by p (Some s) = e ∙ ap (step_by p) here in (
        ap ends moved ∙ sym (exec_on p.task p.at p.run s s within (sym (get_or_from_slice_get p.task p.at s s here))),
        subst (λ (r : Standing). length r.task - r.at < length p.task - p.at) (sym moved) (omega arith),
      )

  pub ends_here : coming p ≡ None → ends p ≡ p.run
  ends_here here =
      elim (slice_get_cases p.task p.at).1 [
        | inl there ↦ cc
        | inr past ↦ ap (λ l. exec 0 l p.run) (drop_all p.at p.task past.0)
      ]
