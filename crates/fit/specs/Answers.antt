-- What is answered to a text.
use Rattle.std.specs.Prelude.{◌≡◌, ◌<◌, ℕ, List, length, Option, Some, None, Ok, Err, Result}
use Rattle.text.specs.declared.refusal.Refusal.{Refusal}
use Rattle.text.specs.declared.refusal.Told.{Told}
use Rattle.text.specs.Readable.{byte_place}
use Rattle.text.specs.Refusals.{told_of}
use Rattle.text.specs.Tokens.{lines_of}
use Rattle.program.specs.Programs.{program_source}
use Rattle.grammar.specs.Names.{declared, names_of}
use Rattle.rounds.specs.Source.{source_of}
use Rattle.rounds.specs.Rounds.{forms_of, text_offence}
use Rattle.fit.specs.declared.acceptance.Accepted.{Accepted}
use Rattle.fit.specs.declared.line.Marked.{Marked}
use Rattle.fit.specs.declared.offence.Refused.{Refused}
use Rattle.fit.specs.Lines.{IsLineAt}
use Rattle.fit.specs.Printed.{accepted_text}

-- A line that is told is the one in which the byte that is told stands in the text.
unfoldable pub IsInText : List ℕ → Told → Type 0
IsInText text told = 0 < told.line → (told.byte < length text) × (told.line ≡ (byte_place text told.byte).line)

-- The line in which the byte stands that is told, if a line is told.
abbrev pub IsMarked : List ℕ → Told → Option Marked → Type 0
IsMarked text told (Some m) = (0 < told.line) × IsLineAt text told.byte m.line.now m.column
IsMarked text told None = told.line ≡ 0

-- A text without an offence is accepted, and what is told is of the program and the names that its lines say. Any other is refused
-- by its first offence.
abbrev pub Answers : List ℕ → Result Accepted Refused → Type 0
Answers text (Ok a) =
    (text_offence text ≡ None)
    × (accepted_text (program_source a.0.rules.program) (declared a.0.names) ≡ accepted_text (source_of (forms_of (lines_of text))) (names_of (forms_of (lines_of text))))
Answers text (Err r) = (e : Refusal) × (text_offence text ≡ Some e) × (r.told ≡ told_of e) × IsInText text (told_of e) × IsMarked text (told_of e) r.marked
