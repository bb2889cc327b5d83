-- The first bytes of an input are enough.
use Rattle.std.proofs.Common.{◌≡◌, ℕ, ◌≤◌, Bool, true, false, cond, ltb, List, ◌∷◌, length, take, Option, Some, None, IfSome, refl, ap, sym, ◌∙◌, subst, arith}
use Rattle.std.proofs.lemmas.Bool.Decides.{nat_tests}
use Rattle.std.proofs.Common.{take_all, length-take-le}
use Rattle.text.specs.declared.refusal.Refusal.{Refusal}
use Rattle.text.specs.Readable.{byte_offence}
use Rattle.text.specs.Tokens.{lines_of}
use Rattle.grammar.specs.Reading.{first_of}
use Rattle.rounds.specs.Rounds.{rounds, text_offence}
use Rattle.fit.specs.Input.{IsReadOf}

-- a text of too many bytes is too long
too_long : (text : List ℕ) → ltb 16384 (length text) ≡ true → text_offence text ≡ Some Refusal.TooLong
unfolding text_offence
too_long text long = ap (λ v. first_of (λ offence. offence) (cond v (Some Refusal.TooLong) None ∷ byte_offence text ∷ rounds (length text) (lines_of text))) long

front_too_long : (input : List ℕ) → ltb 16384 (length input) ≡ true → text_offence (take 16385 input) ≡ Some Refusal.TooLong
front_too_long input long =
    let some : 16385 ≤ length input = grind (arith, nat_tests) in
    too_long (take 16385 input) (ap (ltb 16384) (length-take-le 16385 input some))

read_if : (input : List ℕ) → (long : Bool) → ltb 16384 (length input) ≡ long → IsReadOf input (take 16385 input)
read_if input true long =
    record {
      front = refl;
      told = front_too_long input long ∙ sym (too_long input long);
      whole = λ none. let no = sym none ∙ too_long input long in cc;
    }
read_if input false short =
    let few : length input ≤ 16385 = grind (arith, nat_tests) in
    let all : take 16385 input ≡ input = take_all 16385 input few in
    record {
      front = refl;
      told = ap text_offence all;
      whole = λ _none. all;
    }

read_of : (input text : List ℕ) → text ≡ take 16385 input → IsReadOf input text
read_of input text e = subst (IsReadOf input) (sym e) (read_if input (ltb 16384 (length input)) refl)

pub read_some : (known : Option (List ℕ)) (room : ℕ) (text : List ℕ) → room ≡ 16385 → IfSome known (λ input. text ≡ take room input) → IfSome known (λ input. IsReadOf input text)
read_some None room text e read = tt
read_some (Some input) room text e read = read_of input text (read ∙ ap (λ n. take n input) e)
