-- What the cells of a word read as.
use Rattle.std.proofs.Common.{◌≡◌, ℕ, ◌+◌, ◌*◌, ◌<◌, Bool, true, cond, eqb, ltb, List, length, get_or, Ok, Err, Result, sym, ap, ◌∙◌, arith}
use Rattle.std.proofs.lemmas.Bool.{lt-ltb}
use Rattle.memory.specs.declared.fault.Fault.{Fault}
use Rattle.memory.specs.declared.fault.Fault.TheVariants.{Dark, Outside}
use Rattle.cells.specs.declared.triple.Triple.{Triple}
use Rattle.cells.specs.Triple.{ReadAs, reads, vote}
use Rattle.cells.specs.Cells.{thirds, triple_at, words_of}
use Rattle.cells.proofs.CellLists.{get_or_words}

-- the comparison of numbers is the test of equality
read_as : (t : Triple ℕ) (x : ℕ) → ReadAs (λ (x y : ℕ) (b : Bool). b ≡ eqb x y) t x → x ≡ reads eqb t
read_as t x e = e.2 ∙ ap (λ (b : Bool). vote b t) e.1

-- the word at a place, by the cells that were read there
pub word_read : (words : List ℕ) (p : ℕ) (lit : Bool) (r : Result (Triple ℕ) Fault) (t : Triple ℕ) (x : ℕ)
    → lit ≡ true → p < thirds words → r ≡ cond lit (cond (ltb (3 * p + 2) (length words)) (Ok (triple_at words p)) (Err Outside)) (Err Dark)
    → r ≡ Ok t → ReadAs (λ (x y : ℕ) (b : Bool). b ≡ eqb x y) t x → x ≡ get_or (words_of words) p 0
word_read words p lit r t x on h is went read =
    let there : 3 * p + 2 < length words = omega arith in
    let good : r ≡ Ok (triple_at words p) = is ∙ rw (on, lt-ltb (3 * p + 2) (length words) there) in
    let same : t ≡ triple_at words p = cc in
    read_as t x read ∙ ap (reads eqb) same ∙ sym (get_or_words words p h)
