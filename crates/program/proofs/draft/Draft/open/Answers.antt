-- `Draft::open`: what the search leaves to show.
use Rattle.std.proofs.Common.{ℕ, [], ◌∷◌, ◌++◌, ◌≡◌, length, sym, ap, subst, List, ◌∙◌, arith}
use Rattle.words.proofs.Kept.{pushed_room}
use Rattle.words.specs.Lists.{items}
use Rattle.program.specs.declared.span.Span.{Span}
use Rattle.program.specs.Spans.{LieBehind}
use Rattle.program.proofs.Spans.{opened}
use Rattle.program.proofs.Drafts.{tasks_count, total_count}
use Rattle.program.proofs.draft.Draft.open.Goals as goal

abbrev empty_at : ℕ → Span
empty_at n = record { first = n; size = 0 }

-- one span more, behind the statements
one_more : (c : goal.After-push) → items c.push.new.self ≡ items c.args.self.now.spans ++ empty_at (length (items c.args.self.now.statements)) ∷ []
one_more c =
    let d = c.args.self.now in
    let many = tasks_count d in
    c.push.ensures.after
    ∙ pushed_room 16 (items d.spans) _ (omega (arith, c.requires))
    ∙ ap (λ n. (items d.spans) ++ empty_at n ∷ []) (c.total-first.ensures ∙ total_count d)

pub invariant_of-self : goal.invariant_of-self
invariant_of-self c =
    let d = c.args.self.now in
    record {
      few = d.few;
      laid = subst (λ (xs : List Span). LieBehind 0 xs (length (items d.statements))) (sym (one_more c)) (opened 0 (length (items d.statements)) (items d.spans) d.laid);
    }
