-- The tasks of the program that lines say, each from the lines behind its task line.
use Rattle.std.proofs.Common.{arith, ◌≡◌, refl, sym, ap, ◌∙◌, ℕ, suc, ◌+◌, zero-add, add-zero, List, [], ◌∷◌, ◌++◌, length, length-append, append_assoc, append-nil, Ok, Err, Result}
use Rattle.std.specs.List.{filter_map, fold}
use Rattle.std.specs.Option.{unwrap_or}
use Rattle.program.specs.declared.check.Scope.{Scope}
use Rattle.program.specs.declared.statement.Statement.{Statement}
use Rattle.program.specs.Sound.{Source, scope_of}
use Rattle.program.specs.Drafts.{blank, onto_last, with_local, with_statement, with_task, with_variable}
use Rattle.text.specs.declared.refusal.Refusal.{Refusal}
use Rattle.text.specs.Tokens.{text_of}
use Rattle.forms.specs.Words.{number_of}
use Rattle.forms.specs.Forms.{Line, variable, local, task, statement}
use Rattle.grammar.specs.Names.{Declared, local_name, names_of, task_name, variable_name}
use Rattle.grammar.specs.Reading.{read_sentence}
use Rattle.rounds.specs.Source.{adds, source_of, with_read}

-- a statement before others, if it is read
abbrev pub in_front : Result Statement Refusal → List Statement → List Statement
in_front (Ok s) rest = s ∷ rest
in_front (Err e) rest = rest

-- the statements up to the next task line
abbrev pub open_part : Declared → List Line → List Statement
open_part d [] = []
open_part d (variable n v ∷ ls) = open_part d ls
open_part d (local n ∷ ls) = open_part d ls
open_part d (task n ∷ ls) = []
open_part d (statement s ∷ ls) = in_front (read_sentence d s) (open_part d ls)

-- the statements behind each task line
abbrev pub tasks_in : Declared → List Line → List (List Statement)
tasks_in d [] = []
tasks_in d (variable n v ∷ ls) = tasks_in d ls
tasks_in d (local n ∷ ls) = tasks_in d ls
tasks_in d (task n ∷ ls) = open_part d ls ∷ tasks_in d ls
tasks_in d (statement s ∷ ls) = tasks_in d ls

onto_open : (s : Statement) (ts : List (List Statement)) (t : List Statement) → onto_last s (ts ++ t ∷ []) ≡ ts ++ (t ++ s ∷ []) ∷ []
onto_open s [] t = refl
onto_open s (u ∷ []) t = refl
onto_open s (u ∷ (v ∷ ts)) t = ap (λ more. u ∷ more) (onto_open s (v ∷ ts) t)

-- Where the last task is t, the lines add to it until the next task line.
abbrev OpenGoes : Declared → List Line → List Statement → Type 0
OpenGoes d ls here = (p : Source) (ts : List (List Statement)) (t : List Statement) → p.tasks ≡ ts ++ t ∷ [] → (fold (adds d) p ls).tasks ≡ ts ++ (t ++ here) ∷ tasks_in d ls

-- with a statement that may not be read
open_reads : (d : Declared) (r : Result Statement Refusal) (ls : List Line) → OpenGoes d ls (open_part d ls) → (p : Source) (ts : List (List Statement)) (t : List Statement) → p.tasks ≡ ts ++ t ∷ []
    → (fold (adds d) (with_read r p) ls).tasks ≡ ts ++ (t ++ in_front r (open_part d ls)) ∷ tasks_in d ls
open_reads d (Ok s) ls on p ts t e =
    on (with_statement s p) ts (t ++ s ∷ []) (ap (onto_last s) e ∙ onto_open s ts t)
    ∙ ap (λ u. ts ++ u ∷ tasks_in d ls) (append_assoc t (s ∷ []) (open_part d ls))
open_reads d (Err r) ls on p ts t e = on p ts t e

open_goes : (d : Declared) (ls : List Line) → OpenGoes d ls (open_part d ls)
open_goes d [] p ts t e = e ∙ ap (λ u. ts ++ u ∷ []) (sym (append-nil t))
open_goes d (variable n v ∷ ls) p ts t e = open_goes d ls (with_variable (unwrap_or (number_of (text_of v)) 0) p) ts t e
open_goes d (local n ∷ ls) p ts t e = open_goes d ls (with_local p) ts t e
open_goes d (task n ∷ ls) p ts t e =
    open_goes d ls (with_task p) (ts ++ t ∷ []) [] (ap (λ us. us ++ [] ∷ []) e)
    ∙ append_assoc ts (t ∷ []) (open_part d ls ∷ tasks_in d ls)
    ∙ ap (λ u. ts ++ u ∷ (open_part d ls ∷ tasks_in d ls)) (sym (append-nil t))
open_goes d (statement s ∷ ls) p ts t e = open_reads d (read_sentence d s) ls (open_goes d ls) p ts t e

-- Without a task, statements are passed over.
without_task : (r : Result Statement Refusal) (p : Source) → p.tasks ≡ [] → (with_read r p).tasks ≡ []
without_task (Ok s) p e = ap (onto_last s) e
without_task (Err r) p e = e

tasks_go : (d : Declared) (ls : List Line) (p : Source) → p.tasks ≡ [] → (fold (adds d) p ls).tasks ≡ tasks_in d ls
tasks_go d [] p e = e
tasks_go d (variable n v ∷ ls) p e = tasks_go d ls (with_variable (unwrap_or (number_of (text_of v)) 0) p) e
tasks_go d (local n ∷ ls) p e = tasks_go d ls (with_local p) e
tasks_go d (task n ∷ ls) p e = open_goes d ls (with_task p) [] [] (ap (λ us. us ++ [] ∷ []) e)
tasks_go d (statement s ∷ ls) p e = tasks_go d ls (with_read (read_sentence d s) p) (without_task (read_sentence d s) p e)

pub tasks_said : (whole : List Line) → (source_of whole).tasks ≡ tasks_in (names_of whole) whole
tasks_said whole = tasks_go (names_of whole) whole blank refl

-- HOW MUCH IS DECLARED

tasks_counted : (d : Declared) (ls : List Line) → length (tasks_in d ls) ≡ length (filter_map task_name ls)
tasks_counted d [] = refl
tasks_counted d (variable n v ∷ ls) = tasks_counted d ls
tasks_counted d (local n ∷ ls) = tasks_counted d ls
tasks_counted d (task n ∷ ls) = ap suc (tasks_counted d ls)
tasks_counted d (statement s ∷ ls) = tasks_counted d ls

-- a statement declares nothing
reads_firsts : (r : Result Statement Refusal) (p : Source) → (with_read r p).firsts ≡ p.firsts
reads_firsts (Ok s) p = refl
reads_firsts (Err e) p = refl

reads_locals : (r : Result Statement Refusal) (p : Source) → (with_read r p).locals ≡ p.locals
reads_locals (Ok s) p = refl
reads_locals (Err e) p = refl

firsts_counted : (d : Declared) (ls : List Line) (p : Source) → length (fold (adds d) p ls).firsts ≡ length p.firsts + length (filter_map variable_name ls)
firsts_counted d [] p = sym (add-zero (length p.firsts))
firsts_counted d (variable n v ∷ ls) p =
    let first : ℕ = unwrap_or (number_of (text_of v)) 0 in
    let on = firsts_counted d ls (with_variable first p) in
    let more = length-append p.firsts (first ∷ []) in
    omega arith
firsts_counted d (local n ∷ ls) p = firsts_counted d ls (with_local p)
firsts_counted d (task n ∷ ls) p = firsts_counted d ls (with_task p)
firsts_counted d (statement s ∷ ls) p = firsts_counted d ls (with_read (read_sentence d s) p) ∙ ap (λ xs. length xs + length (filter_map variable_name ls)) (reads_firsts (read_sentence d s) p)

locals_counted : (d : Declared) (ls : List Line) (p : Source) → (fold (adds d) p ls).locals ≡ p.locals + length (filter_map local_name ls)
locals_counted d [] p = sym (add-zero p.locals)
locals_counted d (variable n v ∷ ls) p = locals_counted d ls (with_variable (unwrap_or (number_of (text_of v)) 0) p)
locals_counted d (local n ∷ ls) p = let on = locals_counted d ls (with_local p) in omega arith
locals_counted d (task n ∷ ls) p = locals_counted d ls (with_task p)
locals_counted d (statement s ∷ ls) p = locals_counted d ls (with_read (read_sentence d s) p) ∙ ap (λ k. k + length (filter_map local_name ls)) (reads_locals (read_sentence d s) p)

-- what names declare
abbrev pub scope_with : Declared → Scope
scope_with d = record { variables = length d.variables; locals = length d.locals; tasks = length d.tasks }

pub scope_said : (whole : List Line) → scope_of (source_of whole) ≡ scope_with (names_of whole)
scope_said whole =
    let d : Declared = names_of whole in
    λ i. record {
      variables = (firsts_counted d whole blank ∙ zero-add (length d.variables)) i;
      locals = (locals_counted d whole blank ∙ zero-add (length d.locals)) i;
      tasks = (ap length (tasks_said whole) ∙ tasks_counted d whole) i;
    }
