-- What a program says, and which drafts are programs.
use Rattle.std.specs.Prelude.{◌≡◌, true, length, Ok, Err, Result}
use Rattle.program.specs.declared.draft.build.Flaw.{Flaw}
use Rattle.program.specs.declared.program.Program.{Program}
use Rattle.program.specs.Sound.{Source, sound}
use Rattle.program.specs.Drafts.{IsFirstFlawed, source_of}

abbrev pub program_source : Program → Source
program_source p = source_of p.draft

-- A draft is a program as it stands, or it has no task, or some task is the first that is not well formed.
abbrev pub Made : Source → Result Program Flaw → Type 0
Made p (Ok r) = (sound p ≡ true) × (program_source r ≡ p)
Made p (Err Flaw.Variables) = ⊥
Made p (Err Flaw.Locals) = ⊥
Made p (Err Flaw.Tasks) = ⊥
Made p (Err Flaw.Statements) = ⊥
Made p (Err Flaw.NoTask) = length p.tasks ≡ 0
Made p (Err (Flaw.Malformed t)) = IsFirstFlawed p t.number
