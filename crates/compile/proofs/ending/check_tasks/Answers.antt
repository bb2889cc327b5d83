use Rattle.std.proofs.Common.{◌∙◌, ap, sym, subst, Some, Err}
use Rattle.program.specs.Drafts.{source_of}
use Rattle.program.specs.Programs.{Made}
use Rattle.text.specs.declared.refusal.Refusal.{Refusal}
use Rattle.compile.proofs.Checked.{made_fine, made_flawed, made_whole}
use Rattle.compile.proofs.ending.check_tasks.Goals as goal

pub returns-in-Ok : goal.returns-in-Ok
returns-in-Ok c = made_fine _ c.requires.fine c.args.draft c.requires.says c.in-Ok.program c.in-Ok.ensures

pub returns-in-Malformed : goal.returns-in-Malformed
returns-in-Malformed c =
    let told = made_flawed _ c.requires.fine c.args.draft c.requires.says c.in-Malformed.task (subst (λ f. Made (source_of c.args.draft) (Err f)) c.in-Malformed.is c.in-Err.ensures) in
    told ∙ ap (λ place. Some (Refusal.Emits place)) (sym c.task_line.ensures)

pub returns-in_default : goal.returns-in_default
returns-in_default c = absurd (made_whole _ c.requires.fine c.args.draft c.requires.says c.in-Err.flaw c.in-Err.ensures c.in_default.not-Malformed)
