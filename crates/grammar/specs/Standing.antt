-- What the code keeps of the lines before a line, and what a line adds to that.
use Rattle.std.specs.Prelude.{◌≡◌, ◌++◌, ◌+◌, cond, [], ◌∷◌, List, None, Some, Ok, Err, Result}
use Rattle.text.specs.Tokens.{Tok, text_of}
use Rattle.text.specs.declared.refusal.Refusal.{Refusal}
use Rattle.forms.specs.Forms.{Line, variable, local, task, statement, form_of}
use Rattle.forms.specs.Seen.{line}
use Rattle.forms.specs.declared.form.Form.{Form}
use Rattle.grammar.specs.Names.{Declared, declared}
use Rattle.grammar.specs.Judging.{Point, counted, is_statement, leaves_open, line_offence}
use Rattle.grammar.specs.declared.standing.Standing.{Standing}

abbrev pub point : Standing → Point
point s = record { names = declared s.names; unfinished = s.unfinished; statements = s.statements; size = s.size }

-- what a line declares beside these names
abbrev pub declaring : Line → Declared → Declared
declaring (variable n v) d = record d { variables = d.variables ++ text_of n ∷ [] }
declaring (local n) d = record d { locals = d.locals ++ text_of n ∷ [] }
declaring (task n) d = record d { tasks = d.tasks ++ text_of n ∷ [] }
declaring (statement s) d = d

-- one line on
abbrev pub after : Line → Point → Point
after l p = record {
  names = declaring l p.names;
  unfinished = leaves_open l;
  statements = cond (is_statement l) (p.statements + 1) p.statements;
  size = counted p.size l;
}

-- A line has this form, or it offends.
abbrev pub Judges : Point → List Tok → Result Form Refusal → Type 0
Judges p ts (Ok form) = (line_offence p ts ≡ None) × (form_of ts ≡ Some (line form))
Judges p ts (Err e) = line_offence p ts ≡ Some e

-- A line is taken, and those behind it are judged by it too; or it offends, and nothing is altered.
abbrev pub Takes : Point → List Tok → Result (Unit {0}) Refusal → Point → Type 0
Takes p ts (Ok _) q = (line_offence p ts ≡ None) × ((l : Line) × (form_of ts ≡ Some l) × (q ≡ after l p))
Takes p ts (Err e) q = (line_offence p ts ≡ Some e) × (q ≡ p)
