-- Each longest run of ink is a token of the text's lines.
use Rattle.std.proofs.Common.{◌≡◌, ◌≢◌, ℕ, suc, ◌+◌, ◌<◌, Bool, true, false, not, ◌&&◌, cond, eqb, List, [], ◌∷◌, ◌++◌, length, refl, ap, sym, subst, ◌∙◌, arith, inl, inr}
use Rattle.std.specs.List.{count_by, AllPass, Any, Contains}
use Rattle.std.proofs.lemmas.Bool.{cases_lt, and_from}
use Rattle.std.proofs.lemmas.List.Sums.{sum_by-cons}
use Rattle.std.proofs.lemmas.List.Elements.{All-head, All-tail, Contains-append_right}
use Rattle.text.specs.Bytes.{is_ink, in_line}
use Rattle.text.specs.Tokens.{Tok, token_of, front, tokens_from, lines_from}
use Rattle.text.specs.Runs.{IsTokenOf}
use Rattle.text.proofs.Fronts.{ink_in_line, front_yes, front_no, front_within}
use Rattle.text.proofs.Runs.{NoneBefore, one_line_more}

abbrev ended : List ℕ → ℕ
ended bs = count_by (λ b. eqb b 10) bs

-- what stands behind a token does not begin with ink
abbrev NoneBehind : List ℕ → Type 0
NoneBehind behind = (b : ℕ) (back : List ℕ) → behind ≡ b ∷ back → is_ink b ≡ false

none_within : (b : ℕ) (bs : List ℕ) → NoneBefore (b ∷ bs) → NoneBefore bs
none_within b bs none front c e = none (b ∷ front) c (ap (λ l. b ∷ l) e)

front_run : (run behind : List ℕ) → AllPass is_ink run → NoneBehind behind → front is_ink (run ++ behind) ≡ run
front_run [] [] ink none = refl
front_run [] (b ∷ back) ink none = front_no is_ink b back (none b back refl)
front_run (r ∷ run) behind ink none =
    front_yes is_ink r (run ++ behind) (All-head (λ b. is_ink b ≡ true) r run ink) ∙ ap (λ l. r ∷ l) (front_run run behind (All-tail (λ b. is_ink b ≡ true) r run ink) none)

-- a token at the front of a list, or behind another
contains_here : (t : Tok) (ts : List Tok) (s : Tok) → t ≡ s → Contains (t ∷ ts) s
contains_here t ts s e = (0, omega arith, e)

contains_more : (v : Bool) (t : Tok) (ts : List Tok) (s : Tok) → Contains ts s → Contains (elim v [ true ↦ t ∷ ts | false ↦ ts ]) s
contains_more true t ts s h = Contains-append_right (t ∷ []) ts s h
contains_more false t ts s h = h

contains_first : (v : Bool) (t : Tok) (ts : List Tok) (s : Tok) → v ≡ true → t ≡ s → Contains (elim v [ true ↦ t ∷ ts | false ↦ ts ]) s
contains_first true t ts s h e = contains_here t ts s e
contains_first false t ts s h e = cc

-- a line at the front of a list, or behind another
any_here : {A : Type 0} (P : A → Type 0) (x : A) (xs : List A) → P x → Any P (x ∷ xs)
any_here P x xs p = (0, x, omega arith, refl, p)

any_there : {A : Type 0} (P : A → Type 0) (x : A) (xs : List A) → Any P xs → Any P (x ∷ xs)
any_there P x xs (k, y, l, e, p) = (suc k, y, omega arith, e, p)

any_behind : {A : Type 0} (P : A → Type 0) (v : Bool) (x : A) (xs : List A) → Any P xs → Any P (elim v [ true ↦ xs | false ↦ x ∷ xs ])
any_behind P true x xs p = p
any_behind P false x xs p = any_there P x xs p

any_first : {A : Type 0} (P : A → Type 0) (v : Bool) (x : A) (xs : List A) → v ≡ false → P x → Any P (elim v [ true ↦ xs | false ↦ x ∷ xs ])
any_first P true x xs h p = cc
any_first P false x xs h p = any_here P x xs p

outside : (v : Bool) → (v ≡ true → ⊥) → v ≡ false
outside true h = absurd (h refl)
outside false h = refl

none_of : (v : Bool) → not v ≡ true → ◌≡◌ {A = ℕ} (cond v 1 0) 0
none_of true e = cc
none_of false e = refl

-- a line goes on as long as no byte 10 comes
one_or_none : (v : Bool) → ◌≡◌ {A = ℕ} (cond v 1 0) 0 → not v ≡ true
one_or_none true e = absurd (omega arith)
one_or_none false e = refl

not_ended : (m : ℕ) (ms : List ℕ) → ended (m ∷ ms) ≡ 0 → (in_line m ≡ true) × (ended ms ≡ 0)
not_ended m ms e =
    let c = sum_by-cons (λ b. cond (eqb b 10) 1 0) m ms in
    (one_or_none (eqb m 10) (omega arith), omega arith)

-- A run of ink, by what stands before it, in its line and in the text.
module _ (behind : List ℕ) (none_behind : NoneBehind behind) where
  line_whole : (inside : Bool) (line at : ℕ) (before run : List ℕ) (number place : ℕ) → ended before ≡ 0 → (before ≡ [] → inside ≡ false) → NoneBefore before → run ≢ [] → AllPass is_ink run → number ≡ line → place ≡ at + length before → Contains (tokens_from inside line at (front in_line (before ++ run ++ behind))) (token_of run (record { line = number; byte = place }))
  unfolding tokens_from
  line_whole inside line at [] [] number place few out none some ink e f = absurd (some refl)
  line_whole inside line at [] (r ∷ run) number place few out none some ink e f =
      let rest = front in_line (run ++ behind) in
      let first : is_ink r ≡ true = All-head (λ b. is_ink b ≡ true) r run ink in
      let line_is : front in_line (r ∷ (run ++ behind)) ≡ r ∷ rest = front_yes in_line r (run ++ behind) (ink_in_line r first) in
      let run_is : front is_ink (r ∷ rest) ≡ r ∷ run = ap (front is_ink) (sym line_is) ∙ front_within (r ∷ (run ++ behind)) ∙ front_run (r ∷ run) behind ink none_behind in
      let place_is : at ≡ place = omega arith in
      let token_is : token_of (front is_ink (r ∷ rest)) (record { line = line; byte = at }) ≡ token_of (r ∷ run) (record { line = number; byte = place }) = λ i. token_of (run_is i) (record { line = sym e i; byte = place_is i }) in
      let begins : (is_ink r && not inside) ≡ true = and_from (is_ink r) (not inside) first (ap not (out refl)) in
      subst (λ l. Contains (tokens_from inside line at l) (token_of (r ∷ run) (record { line = number; byte = place }))) (sym line_is) (contains_first (is_ink r && not inside) _ _ _ begins token_is)
  line_whole inside line at (m ∷ before) run number place few out none some ink e f =
      let on = not_ended m before few in
      let line_is : front in_line (m ∷ (before ++ run ++ behind)) ≡ m ∷ front in_line (before ++ run ++ behind) = front_yes in_line m (before ++ run ++ behind) on.0 in
      let later = line_whole (is_ink m) line (at + 1) before run number place on.1 (λ empty. none [] m (ap (λ l. m ∷ l) empty)) (none_within m before none) some ink e (omega arith) in
      subst (λ l. Contains (tokens_from inside line at l) (token_of run (record { line = number; byte = place }))) (sym line_is) (contains_more (is_ink m && not inside) _ _ _ later)

  lines_whole : (inside : Bool) (line at : ℕ) (before run : List ℕ) (number place : ℕ) → (inside ≡ true → 0 < ended before) → NoneBefore before → run ≢ [] → AllPass is_ink run → number ≡ line + ended before → place ≡ at + length before → Any (λ ts. Contains ts (token_of run (record { line = number; byte = place }))) (lines_from inside line at (before ++ run ++ behind))
  unfolding lines_from
  lines_whole inside line at [] [] number place more none some ink e f = absurd (some refl)
  lines_whole true line at [] (r ∷ run) number place more none some ink e f = absurd (let z = more refl in omega arith)
  lines_whole false line at [] (r ∷ run) number place more none some ink e f =
      any_here (λ ts. Contains ts (token_of (r ∷ run) (record { line = number; byte = place }))) _ _ (line_whole false line at [] (r ∷ run) number place refl (λ _. refl) none some ink (omega arith) f)
  lines_whole inside line at (m ∷ before) run number place more none some ink e f =
      let c = sum_by-cons (λ b. cond (eqb b 10) 1 0) m before in
      let further = λ (h : 0 < ended (m ∷ before)). lines_whole (in_line m) (cond (in_line m) line (line + 1)) (at + 1) before run number place (λ on. let z = none_of (eqb m 10) on in omega arith) (none_within m before none) some ink (omega (arith, one_line_more line (eqb m 10))) (omega arith) in
      elim (cases_lt 0 (ended (m ∷ before))) [
        | inl later ↦ any_behind (λ ts. Contains ts (token_of run (record { line = number; byte = place }))) inside _ _ (further later)
        | inr here ↦
            any_first (λ ts. Contains ts (token_of run (record { line = number; byte = place }))) inside _ _ (outside inside (λ v. omega (arith, more v))) (line_whole false line at (m ∷ before) run number place (omega arith) (λ _. refl) none some ink (omega arith) f)
      ]

pub runs_whole : (text : List ℕ) (t : Tok) → IsTokenOf text t → Any (λ ts. Contains ts t) (lines_from false 1 0 text)
runs_whole text t w =
    let found = lines_whole w.behind w.none_behind false 1 0 w.before w.run (1 + ended w.before) (length w.before) (λ e. cc) w.none_before w.some w.ink refl (omega arith) in
    subst (λ bs. Any (λ ts. Contains ts t) (lines_from false 1 0 bs)) (sym w.parts) (subst (λ s. Any (λ ts. Contains ts s) (lines_from false 1 0 (w.before ++ w.run ++ w.behind))) (sym w.token) found)
