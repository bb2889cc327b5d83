-- What a form of the code stands for.
use Rattle.text.specs.Seen.{seen}
use Rattle.forms.specs.Forms.{Line, Sentence, variable, local, task, statement, set, emit, skip, next, choose, stop}
use Rattle.forms.specs.declared.form.Form.{Form}
use Rattle.forms.specs.declared.form.Phrase.{Phrase}

abbrev pub sentence : Phrase → Sentence
sentence (Phrase.Set n a o b) = set (seen n) (seen a) o (seen b)
sentence (Phrase.Emit a) = emit (seen a)
sentence (Phrase.Skip k a c b) = skip (seen k) (seen a) c (seen b)
sentence (Phrase.Next t) = next (seen t)
sentence (Phrase.Choose t a c b u) = choose (seen t) (seen a) c (seen b) (seen u)
sentence Phrase.Stop = stop

abbrev pub line : Form → Line
line (Form.Var n v) = variable (seen n) (seen v)
line (Form.Loc n) = local (seen n)
line (Form.Task n) = task (seen n)
line (Form.Statement s) = statement (sentence s)
