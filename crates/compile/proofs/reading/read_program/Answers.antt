use Rattle.std.proofs.Common.{rules, Option, ◌∙◌, sym, subst, [], Some, None, Ok, Err}
use Rattle.program.specs.Drafts.{source_of}
use Rattle.text.specs.Seen.{held}
use Rattle.forms.specs.Seen.{line}
use Rattle.compile.specs.Passes.{Adds}
use Rattle.compile.proofs.Going.{next_of}
use Rattle.compile.proofs.Saying.{saying_ends, saying_goes, saying_room, saying_starts, saying_stops}
use Rattle.compile.proofs.Accepting.{formed_of}
use Rattle.compile.proofs.reading.read_program.Goals as goal

pub loop-line-init : goal.loop-line-init
loop-line-init c = saying_starts _ _ (formed_of [] _ c.requires.judged) c.requires.judged c.new-draft.ensures

pub add-requires : goal.add-requires
add-requires c = saying_room _ _ _ (held c.in-Some.line) _ (line c.in-Some-of.form) c.loop-line.invariant c.in-Some.ensures.next (sym c.in-Some-of.ensures.value)

pub loop-line-preserved : goal.loop-line-preserved
loop-line-preserved c =
    saying_goes _ _ _ (held c.in-Some.line) _ _ (line c.in-Some-of.form) c.in_ok-add.field-0 c.loop-line.invariant c.in-Some.ensures.next (sym c.in-Some-of.ensures.value)
    (subst (λ d. Adds d (line c.in-Some-of.form) (source_of c.loop-line.draft) (Ok c.in_ok-add.field-0) (source_of c.add.new.draft)) c.requires.named c.in_ok-add.ensures)

pub returns-in_err-add : goal.returns-in_err-add
returns-in_err-add c =
    let stops =
    saying_stops _ _ _ (held c.in-Some.line) _ (source_of c.add.new.draft) (line c.in-Some-of.form) c.in_err-add.field-0.0 c.loop-line.invariant c.in-Some.ensures.next (sym c.in-Some-of.ensures.value)
    (subst (λ d. Adds d (line c.in-Some-of.form) (source_of c.loop-line.draft) (Err c.in_err-add.field-0.0) (source_of c.add.new.draft)) c.requires.named c.in_err-add.ensures) in
    search (stops, rules)

pub loop-line-preserved-in_default-of : goal.loop-line-preserved-in_default-of
loop-line-preserved-in_default-of c =
    let formed = next_of _ _ (held c.in-Some.line) c.loop-line.invariant.going.formed c.in-Some.ensures.next in
    absurd (none_some (c.in_default-of.ensures.value ∙ formed.form))
  where
    none_some : {A : Type 0} {x : A} → Path (Option A) None (Some x) → ⊥
    none_some e = cc

pub returns : goal.returns
returns c = let ends = saying_ends _ _ _ c.loop-line.invariant c.in_default.ensures.next in (ends.0, ends.1)
