-- `Draft::append`: what the search leaves to show.
use Rattle.std.proofs.Common.{[], ◌∷◌, ◌++◌, ◌≡◌, ◌+◌, ◌-◌, ℕ, suc, length, map, get_or, set, sym, ap, ap₂, subst, List, ◌∙◌, arith, length-append}
use Rattle.words.proofs.Kept.{pushed_room}
use Rattle.words.specs.Lists.{items}
use Rattle.program.specs.declared.span.Span.{Span}
use Rattle.program.specs.Spans.{LieBehind, part}
use Rattle.program.specs.Drafts.{source_of}
use Rattle.program.proofs.Spans.{longer, length_last, last_longer, grown}
use Rattle.program.proofs.Drafts.{tasks_count, total_count, with_tasks}
use Rattle.program.proofs.draft.Draft.append.Goals as goal

abbrev none : Span
none = record { first = 0; size = 0 }

pub overflow_add-span : goal.overflow_add-span
overflow_add-span c =
    let d = c.args.self.now in
    let many = tasks_count d in
    let same = ap (λ (xs : List Span). get_or xs (c.len-last.result - 1) none) c.as_slice.ensures.value in
    let size = length_last none (items d.statements) 0 _ (items d.spans) (c.len-last.result - 1) d.laid (omega arith) (omega (arith, c.requires.some, c.len-last.ensures.value)) in
    rw same (omega (arith, c.requires.room))

-- the last span is longer, and the statement stands behind the others
spans_then : (c : goal.After-push) → items c.set.new.self ≡ set (items c.args.self.now.spans) (length (items c.args.self.now.spans) - 1) (longer (get_or (items c.args.self.now.spans) (length (items c.args.self.now.spans) - 1) none))
spans_then c =
    let d = c.args.self.now in
    c.set.ensures
    ∙ ap₂ (λ k (xs : List Span). set (items d.spans) (k - 1) (longer (get_or xs (k - 1) none))) c.len-last.ensures.value c.as_slice.ensures.value

statements_then : (c : goal.After-push) → items c.push.new.self ≡ items c.args.self.now.statements ++ c.args.statement ∷ []
statements_then c =
    let all = total_count c.args.self.now in
    c.push.ensures.after ∙ pushed_room 256 (items c.args.self.now.statements) _ (omega (arith, c.requires.space))

one_longer : (c : goal.After-push) → length (items c.push.new.self) ≡ length (items c.args.self.now.statements) + 1
one_longer c = ap length (statements_then c) ∙ length-append (items c.args.self.now.statements) (c.args.statement ∷ [])

pub invariant_of-self : goal.invariant_of-self
invariant_of-self c =
    let d = c.args.self.now in
    let many = tasks_count d in
    let all = total_count d in
    let k : ℕ = length (items d.spans) - 1 in
    let some : length (items d.spans) ≡ suc k = omega (arith, c.requires.some) in
    let size = length_last none (items d.statements) 0 _ (items d.spans) k d.laid (omega arith) some in
    record {
      few = d.few;
      laid =
          subst (λ (xs : List Span). LieBehind 0 xs (length (items c.push.new.self))) (sym (spans_then c))
          (subst (LieBehind 0 _) (sym (one_longer c)) (last_longer none 0 _ (items d.spans) k d.laid some (omega (arith, c.requires.room))));
    }

pub returns : goal.returns
returns c =
    let d = c.args.self.now in
    let many = tasks_count d in
    let k : ℕ = length (items d.spans) - 1 in
    let some : length (items d.spans) ≡ suc k = omega (arith, c.requires.some) in
    ap₂ (λ table spans. with_tasks (source_of d) (map (part table) spans)) (statements_then c.before) (spans_then c.before)
    ∙ ap (with_tasks (source_of d)) (grown none (items d.statements) c.args.statement 0 _ (items d.spans) k d.laid (omega arith) some)
