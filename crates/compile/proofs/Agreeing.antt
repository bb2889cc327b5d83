-- A program that agrees with the point that lines come to.
use Rattle.std.proofs.Common.{arith, ◌≡◌, refl, sym, ap, ◌∙◌, ℕ, ◌+◌, ◌<◌, true, List, [], ◌∷◌, ◌++◌, ◌==◌, length, length-append, Ok}
use Rattle.std.specs.Option.{unwrap_or}
use Rattle.std.proofs.lemmas.Bool.{eqb-true}
use Rattle.std.proofs.lemmas.List.{nil_from_length}
use Rattle.text.specs.Tokens.{Tok, text_of}
use Rattle.forms.specs.Words.{number_of}
use Rattle.program.specs.declared.statement.Statement.{Statement}
use Rattle.program.specs.Sound.{Source, total}
use Rattle.program.specs.Drafts.{blank, last_task, onto_last, with_local, with_statement, with_task, with_variable}
use Rattle.forms.specs.Forms.{Line, Sentence, variable, local, task, statement}
use Rattle.grammar.specs.Names.{Declared}
use Rattle.grammar.specs.Reading.{read_sentence}
use Rattle.grammar.specs.Judging.{Point, allowed, point_of}
use Rattle.grammar.specs.Standing.{after}
use Rattle.rounds.specs.Source.{adds, with_read}

-- The program declares what the lines before the point declare, and has their statements.
pub record Agrees (p : Point) (src : Source) : Type 0 where
  pub firsts : length src.firsts ≡ length p.names.variables
  pub locals : src.locals ≡ length p.names.locals
  pub tasks : length src.tasks ≡ length p.names.tasks
  pub statements : total src.tasks ≡ p.statements
  pub size : length (last_task src.tasks) ≡ p.size
  pub some : p.unfinished ≡ true → 0 < length src.tasks

-- the line says no statement, or one that is read
abbrev pub Reads : Declared → Line → Type 0
Reads d (variable n v) = Unit {0}
Reads d (local n) = Unit {0}
Reads d (task n) = Unit {0}
Reads d (statement s) = (st : Statement) × (read_sentence d s ≡ Ok st)

pub agrees_blank : Agrees (point_of []) blank
agrees_blank = record { firsts = refl; locals = refl; tasks = refl; statements = refl; size = refl; some = λ h. absurd (cc) }

-- A task more, as yet without statements

opened_total : (tasks : List (List Statement)) → total (tasks ++ [] ∷ []) ≡ total tasks
opened_total [] = refl
opened_total (t ∷ more) = ap (λ n. length t + n) (opened_total more)

opened_last : (tasks : List (List Statement)) → last_task (tasks ++ [] ∷ []) ≡ []
opened_last [] = refl
opened_last (t ∷ []) = refl
opened_last (t ∷ (u ∷ more)) = opened_last (u ∷ more)

-- A statement more in the last task

pub onto_length : (s : Statement) (tasks : List (List Statement)) → length (onto_last s tasks) ≡ length tasks
onto_length s [] = refl
onto_length s (t ∷ []) = refl
onto_length s (t ∷ (u ∷ more)) = let on = onto_length s (u ∷ more) in omega arith

onto_total : (s : Statement) (tasks : List (List Statement)) → 0 < length tasks → total (onto_last s tasks) ≡ total tasks + 1
onto_total s [] h = absurd (omega arith)
onto_total s (t ∷ []) h = simp length-append (omega arith)
onto_total s (t ∷ (u ∷ more)) h = let on = onto_total s (u ∷ more) (omega arith) in omega arith

onto_size : (s : Statement) (tasks : List (List Statement)) → 0 < length tasks → length (last_task (onto_last s tasks)) ≡ length (last_task tasks) + 1
onto_size s [] h = absurd (omega arith)
onto_size s (t ∷ []) h = length-append t (s ∷ [])
onto_size s (t ∷ (u ∷ [])) h = length-append u (s ∷ [])
onto_size s (t ∷ (u ∷ (v ∷ more))) h = onto_size s (u ∷ (v ∷ more)) (omega arith)

-- One line on
module _ (p : Point) (src : Source) (h : Agrees p src) where
  without_tasks : (length p.names.tasks == 0) ≡ true → src.tasks ≡ []
  without_tasks e = nil_from_length src.tasks (h.tasks ∙ eqb-true (length p.names.tasks) 0 e)

  pub agrees_variable : (n v : Tok) (first : ℕ) → (length p.names.tasks == 0) ≡ true → Agrees (after (variable n v) p) (with_variable first src)
  agrees_variable n v first e = record {
    firsts = length-append src.firsts (first ∷ []) ∙ ap (λ k. k + 1) h.firsts ∙ sym (length-append p.names.variables (text_of n ∷ []));
    locals = h.locals;
    tasks = h.tasks;
    statements = h.statements;
    size = ap (λ ts. length (last_task ts)) (without_tasks e);
    some = λ o. absurd (cc);
  }

  pub agrees_local : (n : Tok) → (length p.names.tasks == 0) ≡ true → Agrees (after (local n) p) (with_local src)
  agrees_local n e = record {
    firsts = h.firsts;
    locals = ap (λ k. k + 1) h.locals ∙ sym (length-append p.names.locals (text_of n ∷ []));
    tasks = h.tasks;
    statements = h.statements;
    size = ap (λ ts. length (last_task ts)) (without_tasks e);
    some = λ o. absurd (cc);
  }

  pub agrees_task : (n : Tok) → Agrees (after (task n) p) (with_task src)
  agrees_task n = record {
    firsts = h.firsts;
    locals = h.locals;
    tasks = length-append src.tasks ([] ∷ []) ∙ ap (λ k. k + 1) h.tasks ∙ sym (length-append p.names.tasks (text_of n ∷ []));
    statements = opened_total src.tasks ∙ h.statements;
    size = ap length (opened_last src.tasks);
    some = λ _. simp length-append (omega arith);
  }

  pub agrees_statement : (s : Sentence) (st : Statement) → p.unfinished ≡ true → Agrees (after (statement s) p) (with_statement st src)
  agrees_statement s st e = record {
    firsts = h.firsts;
    locals = h.locals;
    tasks = onto_length st src.tasks ∙ h.tasks;
    statements = onto_total st src.tasks (h.some e) ∙ ap (λ k. k + 1) h.statements;
    size = onto_size st src.tasks (h.some e) ∙ ap (λ k. k + 1) h.size;
    some = λ _. let l = onto_length st src.tasks in let m = h.some e in omega arith;
  }

pub agrees_on : (d : Declared) (p : Point) (src : Source) (l : Line) → Agrees p src → allowed p l ≡ true → Reads d l → Agrees (after l p) (adds d src l)
agrees_on d p src (variable n v) h e r = agrees_variable p src h n v (unwrap_or (number_of (text_of v)) 0) e
agrees_on d p src (local n) h e r = agrees_local p src h n e
agrees_on d p src (task n) h e r = agrees_task p src h n
agrees_on d p src (statement s) h e r =
    rw (ap (λ x. with_read x src) r.1) (agrees_statement p src h s r.0 e)
