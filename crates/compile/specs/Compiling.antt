-- What compiling a text comes to.
use Rattle.std.specs.Prelude.{◌≡◌, ℕ, Bool, cond, ◌||◌, nat_lt, List, length, replicate, Option, Some, None, Ok, Err, Result}
use Rattle.program.specs.declared.program.Program.{Program}
use Rattle.program.specs.Programs.{program_source}
use Rattle.text.specs.declared.refusal.Refusal.{Refusal}
use Rattle.text.specs.Tokens.{lines_of}
use Rattle.grammar.specs.declared.names.Names.{Names}
use Rattle.grammar.specs.Names.{declared, names_of}
use Rattle.grammar.specs.Reading.{first_of}
use Rattle.rounds.specs.Source.{source_of}
use Rattle.rounds.specs.Rounds.{forms_of, rounds, text_offence}

-- The program is what the text's lines say, and the names are those that they declare.
abbrev pub SaysText : List ℕ → Program → Names → Type 0
SaysText text p n = (program_source p ≡ source_of (forms_of (lines_of text))) × (declared n ≡ names_of (forms_of (lines_of text)))

-- No round over the lines has an offence, and the program is what they say; or this is the first offence.
abbrev pub ReadsText : List ℕ → Result (Program × Names) Refusal → Type 0
ReadsText text (Ok r) = (first_of (λ offence. offence) (rounds (length text) (lines_of text)) ≡ None) × SaysText text r.0 r.1
ReadsText text (Err e) = first_of (λ offence. offence) (rounds (length text) (lines_of text)) ≡ Some e

-- one of two scratches has fewer than 64 facts
abbrev pub too_short : ℕ → ℕ → Bool
too_short touched most = nat_lt touched 64 || nat_lt most 64

-- Why a text is refused, with scratches of so many facts.
abbrev pub refusal_of : ℕ → ℕ → List ℕ → Option Refusal
refusal_of touched most text = cond (too_short touched most) (Some Refusal.ShortScratch) (text_offence text)

-- A scratch that held `before` then holds `after`: what it held, if one was too short, and otherwise start facts throughout.
abbrev pub Leaves : {F : Type 0} → Bool → F → List F → List F → Type 0
Leaves short start before after = after ≡ cond short before (replicate (length before) start)
