-- The words of a memory that is laid.
use Rattle.std.proofs.Common.{◌≡◌, ℕ, ◌+◌, ◌≤◌, Bool, true, false, cond, ltb, List, [], ◌∷◌, ◌++◌, length, set, drop, Ok, Err, Result, refl, sym, ap, ◌∙◌, arith, append_assoc, length-append}
use Rattle.std.proofs.Math.Seq.{drop-append-add, set-append_seam}
use Rattle.std.proofs.lemmas.Bool.{false≢true}
use Rattle.std.specs.Result.{is_ok}
use Rattle.memory.specs.declared.fault.Cut.{Cut}
use Rattle.memory.specs.declared.fault.Fault.{Fault}
use Rattle.memory.specs.declared.fault.Fault.TheVariants as fault
use Rattle.memory.specs.Value.{Value, stored, write_answer, written}
use Rattle.program.specs.Sound.{Source}
use Rattle.plain.specs.Plain.{at_first, page}
use Rattle.layout.specs.declared.store.Store.{Store}
use Rattle.layout.specs.Places.{least_length}
use Rattle.calls.specs.Laws.{all_stored}
use Rattle.calls.specs.Opening.{lay_stores, next_becomes, stored_all, stores_answer, unlaid_word}
use Rattle.calls.specs.Running.{stores_from}
use Rattle.cabinet.specs.Laying.{laid_words, page_answer, page_left}
use Rattle.cabinet.proofs.Laying.{left_first, page_answers, page_leaves, told_first}

-- a store that is made places its word
abbrev made_answer : Bool → Bool → Bool → Cut → Result (Unit {0}) Fault
made_answer lit inside low cut = cond lit (cond inside (cond low (Err (fault.Cut cut)) (Ok tt)) (Err fault.Outside)) (Err fault.Dark)

made_left : (lit inside low : Bool) (cut : Cut) (v dark stored : Value)
    → is_ok (made_answer lit inside low cut) ≡ true
    → cond lit (cond inside (cond low dark stored) v) v ≡ stored
made_left false inside low cut v dark stored made = absurd (false≢true made)
made_left true false low cut v dark stored made = absurd (false≢true made)
made_left true true true cut v dark stored made = absurd (false≢true made)
made_left true true false cut v dark stored made = refl

store_made : (v : Value) (p w : ℕ) → is_ok (write_answer v p) ≡ true → (written v p w).words ≡ set v.words p w
store_made v p w made = ap (λ (v : Value). v.words) (made_left v.lit (ltb p (length v.words)) (ltb v.charge v.kind.price) _ v _ (stored v p w) made)

-- and so do stores that are all made
first_made : (s : Store) (more : List Store) (v : Value) (r : Result (Unit {0}) Fault)
    → ((v : Value) → is_ok (stores_answer v more) ≡ true → (stored_all v more).words ≡ all_stored more v.words)
    → r ≡ write_answer v s.place
    → is_ok (told_first v s more r) ≡ true
    → (left_first v s more r).words ≡ all_stored more (set v.words s.place s.word)
first_made s more v (Ok u) others e made = others (written v s.place s.word) made ∙ ap (all_stored more) (store_made v s.place s.word (sym (ap is_ok e)))
first_made s more v (Err f) others e made = absurd (false≢true made)

stores_made : (es : List Store) (v : Value) → is_ok (stores_answer v es) ≡ true → (stored_all v es).words ≡ all_stored es v.words
unfolding stores_answer stored_all
stores_made [] v made = refl
stores_made (s ∷ more) v made = first_made s more v (write_answer v s.place) (stores_made more) refl made

-- words stored behind some stand there
words_stored : (before words ws : List ℕ) (n : ℕ) (more : List Store) → length before ≡ n → length words ≤ length ws → all_stored (stores_from n words ++ more) (before ++ ws) ≡ all_stored more (before ++ (words ++ drop (length words) ws))
words_stored before [] ws n more size long = refl
words_stored before (w ∷ words) [] n more size long = absurd (omega arith)
words_stored before (w ∷ words) (x ∷ ws) n more size long =
    let here : set (before ++ x ∷ ws) n w ≡ (before ++ w ∷ []) ++ ws = ap (λ n. set (before ++ x ∷ ws) n w) (sym size) ∙ set-append_seam before x ws w ∙ sym (append_assoc before (w ∷ []) ws) in
    ap (all_stored (stores_from (n + 1) words ++ more)) here
    ∙ words_stored (before ++ w ∷ []) words ws (n + 1) more (omega (arith, length-append before (w ∷ []))) (omega arith)
    ∙ ap (all_stored more) (append_assoc before (w ∷ []) (words ++ drop (length words) ws))

-- the stores of lay leave the page: the head and the words up to the record are known by their places, and then come the variables
page_stored : (p : Source) (ws : List ℕ) → 13 + length p.firsts ≤ length ws → all_stored (lay_stores p) ws ≡ laid_words p ws
unfolding laid_words
page_stored p (a ∷ b ∷ c ∷ d ∷ e ∷ f ∷ g ∷ h ∷ i ∷ j ∷ k ∷ l ∷ m ∷ rest) long =
    words_stored (0 ∷ 0 ∷ 0 ∷ unlaid_word ∷ 0 ∷ 0 ∷ 0 ∷ 0 ∷ 0 ∷ 0 ∷ 0 ∷ 0 ∷ 0 ∷ []) p.firsts rest 13 (next_becomes 0 ∷ []) refl (omega arith)
    ∙ ap (λ behind. 0 ∷ page (at_first p) ++ behind) (sym (drop-append-add (a ∷ b ∷ c ∷ d ∷ e ∷ f ∷ g ∷ h ∷ i ∷ j ∷ k ∷ l ∷ m ∷ []) rest (length p.firsts)))
page_stored p ws long = absurd (omega arith)

pub laid_page : (p : Source) (v : Value) → least_length (length p.firsts) ≤ length v.words → is_ok (page_answer p v) ≡ true → (page_left p v).words ≡ laid_words p v.words
laid_page p v long made =
    ap (λ (v : Value). v.words) (page_leaves p v)
    ∙ stores_made (lay_stores p) v (sym (ap is_ok (page_answers p v)) ∙ made)
    ∙ page_stored p v.words (omega arith)
