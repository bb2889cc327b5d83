-- The line in which a byte stands.
use Rattle.std.proofs.Common.{◌≡◌, ℕ, ◌+◌, ◌-◌, ◌≤◌, Bool, true, false, ◌&&◌, cond, eqb, List, [], ◌∷◌, ◌++◌, length, take, drop, reverse, refl, ap, sym, ◌∙◌, subst, arith, append_assoc, length-append, take-append-drop}
use Rattle.std.specs.List.{count_by, fold, prefix_len, suffix_len, list_all}
use Rattle.std.proofs.lemmas.Bool.Decides.{nat_tests}
use Rattle.std.proofs.lemmas.List.{reverse-append, reverse-reverse, length-reverse, take_at, drop_at}
use Rattle.std.proofs.lemmas.List.Folds.{list_all-append}
use Rattle.std.proofs.lemmas.List.Sums.{list_all-from_AllPass, sum_by-append, prefix_len-le-length}
use Rattle.std.proofs.Common.{length-take-le}
use Rattle.text.specs.Bytes.{in_line}
use Rattle.text.proofs.Fronts.{front_passes, front_ends}
use Rattle.fit.specs.Lines.{IsLineAt}

ends_line : (b : ℕ) → in_line b ≡ false → b ≡ 10
ends_line b e = grind (arith, nat_tests)

goes_on : (b : ℕ) → in_line b ≡ true → eqb b 10 ≡ false
goes_on b e = grind (arith, nat_tests)

both : (u v : Bool) → u ≡ true → v ≡ true → (u && v) ≡ true
both u v p q = cc

first_passes : (u v : Bool) → (u && v) ≡ true → u ≡ true
first_passes true v e = refl
first_passes false v e = e

rest_passes : (u v : Bool) → (u && v) ≡ true → v ≡ true
rest_passes true v e = e
rest_passes false v e = cc

-- a list the other way round passes too
all_reversed : (test : ℕ → Bool) (xs : List ℕ) → list_all test xs ≡ true → list_all test (reverse xs) ≡ true
all_reversed test [] e = refl
all_reversed test (x ∷ xs) e =
    ap (list_all test) (reverse-append (x ∷ []) xs) ∙ list_all-append test (reverse xs) (x ∷ []) ∙ both _ _ (all_reversed test xs (rest_passes (test x) _ e)) (both _ _ (first_passes (test x) _ e) refl)

-- a front goes on over what passes
front_over : (xs ys : List ℕ) → list_all in_line xs ≡ true → length xs ≤ prefix_len in_line (xs ++ ys)
front_over [] ys e = omega arith
front_over (x ∷ xs) ys e =
    let here : prefix_len in_line (x ∷ (xs ++ ys)) ≡ 1 + prefix_len in_line (xs ++ ys) = ap (λ v. cond v (1 + prefix_len in_line (xs ++ ys)) 0) (first_passes (in_line x) _ e) in
    omega (arith, front_over xs ys (rest_passes (in_line x) _ e))

-- no line ends within it
none_ends : (xs : List ℕ) → list_all in_line xs ≡ true → count_by (λ b. eqb b 10) xs ≡ 0
none_ends [] e = refl
none_ends (x ∷ xs) e =
    ap (λ v. fold (λ n b. n + cond (eqb b 10) 1 0) (0 + cond v 1 0) xs) (goes_on x (first_passes (in_line x) _ e)) ∙ none_ends xs (rest_passes (in_line x) _ e)

-- A text that is cut at a byte: what stands before its line, what stands before it in the line, and what follows.
module _ (head tail after : List ℕ) (begins : (front : List ℕ) (b : ℕ) → head ≡ front ++ b ∷ [] → b ≡ 10) (on : list_all in_line tail ≡ true) where
  cut_line : IsLineAt (head ++ (tail ++ after)) (length head + length tail) (take (prefix_len in_line (tail ++ after)) (tail ++ after)) (length tail)
  cut_line =
      let rest = tail ++ after in
      let before : take (length head + length tail) (head ++ rest) ≡ head ++ tail = ap (take (length head + length tail)) (sym (append_assoc head tail after)) ∙ take_at (head ++ tail) after (length head + length tail) (length-append head tail) in
      let counted : count_by (λ b. eqb b 10) (head ++ tail) ≡ count_by (λ b. eqb b 10) head = sum_by-append (λ b. cond (eqb b 10) 1 0) head tail ∙ omega (arith, none_ends tail on) in
      record {
        before = head;
        behind = drop (prefix_len in_line rest) rest;
        parts = ap (λ l. head ++ l) (sym (take-append-drop (prefix_len in_line rest) rest)) ∙ sym (append_assoc head (take (prefix_len in_line rest) rest) (drop (prefix_len in_line rest) rest));
        begins = begins;
        ends = λ b back e. ends_line b (front_ends in_line rest b back e);
        inside = front_passes in_line rest;
        stands = refl;
        within = omega (arith, length-take-le (prefix_len in_line rest) rest (prefix_len-le-length in_line rest), front_over tail after on);
        number = ap (λ l. 1 + count_by (λ b. eqb b 10) l) before ∙ ap (λ n. 1 + n) counted;
      }

pub line_there : (text : List ℕ) (place : ℕ) → place ≤ length text → IsLineAt text place (take (prefix_len in_line (drop (place - suffix_len in_line (take place text)) text)) (drop (place - suffix_len in_line (take place text)) text)) (suffix_len in_line (take place text))
line_there text place within =
    let before = take place text in
    let back = reverse before in
    let size = suffix_len in_line before in
    let head = reverse (drop size back) in
    let tail = reverse (take size back) in
    let after = drop place text in
    let parts : before ≡ head ++ tail = sym (reverse-reverse before) ∙ ap reverse (sym (take-append-drop size back)) ∙ reverse-append (take size back) (drop size back) in
    let whole : text ≡ head ++ (tail ++ after) = sym (take-append-drop place text) ∙ ap (λ l. l ++ after) parts ∙ append_assoc head tail after in
    let begins : (front : List ℕ) (b : ℕ) → head ≡ front ++ b ∷ [] → b ≡ 10 =
    λ front b e. ends_line b (front_ends in_line back b (reverse front) (sym (reverse-reverse (drop size back)) ∙ ap reverse e ∙ reverse-append front (b ∷ []))) in
    let on : list_all in_line tail ≡ true = all_reversed in_line (take size back) (list_all-from_AllPass in_line (take size back) (front_passes in_line back)) in
    let long : length tail ≡ size = length-reverse (take size back) ∙ length-take-le size back (prefix_len-le-length in_line back) in
    let first : length head + length tail ≡ place = sym (length-append head tail) ∙ ap length (sym parts) ∙ length-take-le place text within in
    let start : length head ≡ place - size = omega arith in
    let rest : drop (place - size) text ≡ tail ++ after = ap (drop (place - size)) whole ∙ drop_at head (tail ++ after) (place - size) start in
    subst (λ l. IsLineAt text place (take (prefix_len in_line l) l) size) (sym rest)
    (subst (λ n. IsLineAt text place (take (prefix_len in_line (tail ++ after)) (tail ++ after)) n) long
    (subst (λ n. IsLineAt text n (take (prefix_len in_line (tail ++ after)) (tail ++ after)) (length tail)) first
    (subst (λ l. IsLineAt l (length head + length tail) (take (prefix_len in_line (tail ++ after)) (tail ++ after)) (length tail)) (sym whole)
    (cut_line head tail after begins on))))
