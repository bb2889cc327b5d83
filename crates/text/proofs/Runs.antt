-- Each token of a text's lines is a longest run of ink.
use Rattle.std.proofs.Common.{◌≡◌, ℕ, ◌+◌, Bool, true, false, not, ◌&&◌, cond, eqb, List, [], ◌∷◌, ◌++◌, length, take, drop, refl, ap, sym, ◌∙◌, add-zero, arith, inl, inr, append_assoc, length-append}
use Rattle.std.specs.List.{prefix_len, count_by, All}
use Rattle.std.proofs.lemmas.Bool.{cases_Bool}
use Rattle.std.proofs.lemmas.List.{take-append-drop}
use Rattle.std.proofs.lemmas.List.Sums.{sum_by_push}
use Rattle.std.proofs.lemmas.List.Elements.{All-nil, All-cons, All-same}
use Rattle.text.specs.declared.refusal.Place.{Place}
use Rattle.text.specs.Bytes.{is_letter, is_digit, is_ink, in_line}
use Rattle.text.specs.Tokens.{Tok, word, number, comment, sign, token_of, place_of, front, tokens_from, lines_from}
use Rattle.text.specs.Runs.{IsTokenOf}
use Rattle.text.proofs.Fronts.{ink_in_line, end_no_ink, front_yes, front_no, front_passes, front_ends, front_within}

-- what stands before a token does not end in ink
abbrev pub NoneBefore : List ℕ → Type 0
NoneBefore before = (front : List ℕ) (b : ℕ) → before ≡ front ++ b ∷ [] → is_ink b ≡ false

-- the line on which a byte stands, by the bytes before it
abbrev pub line_behind : List ℕ → ℕ
line_behind before = 1 + count_by (λ b. eqb b 10) before

same_last : (xs ys : List ℕ) (a b : ℕ) → xs ++ a ∷ [] ≡ ys ++ b ∷ [] → a ≡ b
same_last [] [] a b e = cc
same_last [] (y ∷ []) a b e = cc
same_last [] (y ∷ z ∷ ys) a b e = cc
same_last (x ∷ []) [] a b e = cc
same_last (x ∷ z ∷ xs) [] a b e = cc
same_last (x ∷ xs) (y ∷ ys) a b e = let rest : xs ++ a ∷ [] ≡ ys ++ b ∷ [] = cc in same_last xs ys a b rest

pub none_at_start : NoneBefore []
none_at_start [] b e = cc
none_at_start (c ∷ front) b e = cc

none_pushed : (before : List ℕ) (b : ℕ) → is_ink b ≡ false → NoneBefore (before ++ b ∷ [])
none_pushed before b no_ink front c e = ap is_ink (sym (same_last before front b c e)) ∙ no_ink

pub one_line_more : (line : ℕ) (v : Bool) → cond (not v) line (line + 1) ≡ line + cond v 1 0
one_line_more line true = refl
one_line_more line false = sym (add-zero line)

line_pushed : (line : ℕ) (before : List ℕ) (b : ℕ) → line ≡ line_behind before → cond (in_line b) line (line + 1) ≡ line_behind (before ++ b ∷ [])
line_pushed line before b e =
    one_line_more line (eqb b 10) ∙ omega (arith, e, sum_by_push (λ c. cond (eqb c 10) 1 0) before b)

-- a token is at the place that it is given
place_of_one : (u v w : Bool) (text : List ℕ) (p : Place) → place_of (cond u (word text p) (cond v (number text p) (cond w (comment text p) (sign text p)))) ≡ p
place_of_one true v w text p = refl
place_of_one false true w text p = refl
place_of_one false false true text p = refl
place_of_one false false false text p = refl

pub place_of_token : (text : List ℕ) (p : Place) → place_of (token_of text p) ≡ p
place_of_token [] p = refl
place_of_token (b ∷ bs) p = place_of_one (is_letter b) (is_digit b) (eqb b 35) (b ∷ bs) p

-- a token or none at the front of a list
pub one_more : (P : Tok → Type 0) (v : Bool) (t : Tok) (ts : List Tok) → (v ≡ true → P t) → All P ts → All P (elim v [ true ↦ t ∷ ts | false ↦ ts ])
one_more P true t ts h all = All-cons P t ts (h refl) all
one_more P false t ts h all = all

-- the first of a list, or none
unless : {A : Type 0} (P : A → Type 0) (v : Bool) (x : A) (xs : List A) → (v ≡ false → P x) → All P xs → All P (elim v [ true ↦ xs | false ↦ x ∷ xs ])
unless P true x xs h all = all
unless P false x xs h all = All-cons P x xs (h refl) all

both : (u v : Bool) → (u && not v) ≡ true → (u ≡ true) × (v ≡ false)
both true false e = (refl, refl)
both true true e = cc
both false v e = cc

module _ (text : List ℕ) where
  abbrev IsRun : Tok → Type 0
  IsRun t = IsTokenOf text t

  begun : (line at : ℕ) (before : List ℕ) (b : ℕ) (bs : List ℕ) → text ≡ before ++ b ∷ bs → line ≡ line_behind before → at ≡ length before → NoneBefore before → is_ink b ≡ true → IsRun (token_of (front is_ink (b ∷ front in_line bs)) (record { line = line; byte = at }))
  begun line at before b bs e l a none ink =
      let size = prefix_len is_ink (b ∷ bs) in
      let within : front is_ink (b ∷ front in_line bs) ≡ front is_ink (b ∷ bs) = ap (front is_ink) (sym (front_yes in_line b bs (ink_in_line b ink))) ∙ front_within (b ∷ bs) in
      record {
        before = before;
        run = front is_ink (b ∷ bs);
        behind = drop size (b ∷ bs);
        parts = e ∙ ap (λ l. before ++ l) (sym (take-append-drop size (b ∷ bs))) ∙ sym (append_assoc before (take size (b ∷ bs)) (drop size (b ∷ bs)));
        some = λ z. let f = front_yes is_ink b bs ink in cc;
        ink = front_passes is_ink (b ∷ bs);
        none_before = none;
        none_behind = front_ends is_ink (b ∷ bs);
        token = λ i. token_of (within i) (record { line = l i; byte = a i });
      }

  line_sound : (inside : Bool) (line at : ℕ) (before bs : List ℕ) → text ≡ before ++ bs → line ≡ line_behind before → at ≡ length before → (inside ≡ false → NoneBefore before) → All IsRun (tokens_from inside line at (front in_line bs))
  unfolding tokens_from
  line_sound inside line at before [] e l a none = All-nil IsRun
  line_sound inside line at before (b ∷ bs) e l a none =
      let here = λ (v : (is_ink b && not inside) ≡ true). let w = both (is_ink b) inside v in begun line at before b bs e l a (none w.1) w.0 in
      elim (cases_Bool (in_line b)) [
        | inl on ↦
            let same_line : line ≡ line_behind (before ++ b ∷ []) = ap (λ v. cond v line (line + 1)) (sym on) ∙ line_pushed line before b l in
            let later = line_sound (is_ink b) line (at + 1) (before ++ b ∷ []) bs (e ∙ sym (append_assoc before (b ∷ []) bs)) same_line (simp length-append (omega arith)) (none_pushed before b) in
            All-same IsRun _ _ (ap (tokens_from inside line at) (front_yes in_line b bs on)) (one_more IsRun (is_ink b && not inside) _ (tokens_from (is_ink b) line (at + 1) (front in_line bs)) here later)
        | inr off ↦ All-same IsRun _ _ (ap (tokens_from inside line at) (front_no in_line b bs off)) (All-nil IsRun)
      ]

  pub lines_sound : (inside : Bool) (line at : ℕ) (before bs : List ℕ) → text ≡ before ++ bs → line ≡ line_behind before → at ≡ length before → (inside ≡ false → NoneBefore before) → All (All IsRun) (lines_from inside line at bs)
  unfolding lines_from
  lines_sound inside line at before [] e l a none = All-nil (All IsRun)
  lines_sound inside line at before (b ∷ bs) e l a none =
      let behind = lines_sound (in_line b) (cond (in_line b) line (line + 1)) (at + 1) (before ++ b ∷ []) bs (e ∙ sym (append_assoc before (b ∷ []) bs)) (line_pushed line before b l) (simp length-append (omega arith)) (λ off. none_pushed before b (end_no_ink b off)) in
      unless (All IsRun) inside _ _ (λ out. line_sound false line at before (b ∷ bs) e l a (λ _. none out)) behind
