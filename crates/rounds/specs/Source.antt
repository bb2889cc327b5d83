-- The program that lines say.
use Rattle.std.specs.Prelude.{List, Ok, Err, Result}
use Rattle.std.specs.List.{fold}
use Rattle.std.specs.Option.{unwrap_or}
use Rattle.program.specs.declared.statement.Statement.{Statement}
use Rattle.program.specs.Sound.{Source}
use Rattle.program.specs.Drafts.{blank, with_local, with_statement, with_task, with_variable}
use Rattle.text.specs.declared.refusal.Refusal.{Refusal}
use Rattle.text.specs.Tokens.{text_of}
use Rattle.forms.specs.Words.{number_of}
use Rattle.forms.specs.Forms.{Line, variable, local, task, statement}
use Rattle.grammar.specs.Names.{Declared, names_of}
use Rattle.grammar.specs.Reading.{read_sentence}

abbrev pub with_read : Result Statement Refusal → Source → Source
with_read (Ok s) p = with_statement s p
with_read (Err e) p = p

-- what a line adds to a program
abbrev pub adds : Declared → Source → Line → Source
adds d p (variable n v) = with_variable (unwrap_or (number_of (text_of v)) 0) p
adds d p (local n) = with_local p
adds d p (task n) = with_task p
adds d p (statement s) = with_read (read_sentence d s) p

-- all lines, one after another
abbrev pub source_of : List Line → Source
source_of lines = fold (adds (names_of lines)) blank lines
