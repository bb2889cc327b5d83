-- The numbers of a text's lines, and the order of its tokens.
use Rattle.std.proofs.Common.{◌≡◌, ℕ, zero, suc, ◌+◌, ◌<◌, ◌≤◌, Bool, true, false, not, ◌&&◌, cond, List, [], ◌∷◌, ◌++◌, length, drop, get_or, refl, ap, subst, arith}
use Rattle.std.specs.List.{prefix_len, flat_map, All}
use Rattle.std.proofs.lemmas.List.Elements.{All-nil, All-same, All-append, All-weaker, All-head, All-tail}
use Rattle.std.proofs.lemmas.List.Folds.{length-prefix_len}
use Rattle.text.specs.Bytes.{is_ink, in_line}
use Rattle.text.specs.Tokens.{Tok, token_of, place_of, front, tokens_from, lines_from}
use Rattle.text.proofs.Lining.{past_line}
use Rattle.text.proofs.Runs.{place_of_token, one_more}

line_numbered : (inside : Bool) (line at : ℕ) (bs : List ℕ) → All (λ t. (place_of t).line ≡ line) (tokens_from inside line at bs)
unfolding tokens_from
line_numbered inside line at [] = All-nil (λ t. (place_of t).line ≡ line)
line_numbered inside line at (b ∷ bs) =
    one_more (λ t. (place_of t).line ≡ line) (is_ink b && not inside) _ _ (λ _. ap (λ p. p.line) (place_of_token (front is_ink (b ∷ bs)) (record { line = line; byte = at }))) (line_numbered (is_ink b) line (at + 1) bs)

-- the number of the first line that begins
next_number : (v : Bool) (line : ℕ) → cond v (cond v line (line + 1) + 1) (cond v line (line + 1)) ≡ line + 1
next_number true line = refl
next_number false line = refl

pub lines_numbered : (inside : Bool) (line at : ℕ) (bs : List ℕ) (k : ℕ) → k < length (lines_from inside line at bs) → All (λ t. (place_of t).line ≡ cond inside (line + 1) line + k) (get_or (lines_from inside line at bs) k [])
unfolding lines_from
lines_numbered inside line at [] k h = absurd (omega arith)
lines_numbered true line at (b ∷ bs) k h =
    let from : ℕ → Type 0 = λ n. All (λ t. (place_of t).line ≡ n + k) (get_or (lines_from true line at (b ∷ bs)) k []) in
    subst from (next_number (in_line b) line) (lines_numbered (in_line b) (cond (in_line b) line (line + 1)) (at + 1) bs k h)
lines_numbered false line at (b ∷ bs) zero h =
    All-weaker (λ t. (place_of t).line ≡ line) (λ t. (place_of t).line ≡ line + 0) (λ t e. omega arith) _ (line_numbered false line at (front in_line (b ∷ bs)))
lines_numbered false line at (b ∷ bs) (suc k) h =
    let rest = lines_numbered (in_line b) (cond (in_line b) line (line + 1)) (at + 1) bs k (omega arith) in
    All-weaker (λ t. (place_of t).line ≡ cond (in_line b) (cond (in_line b) line (line + 1) + 1) (cond (in_line b) line (line + 1)) + k) (λ t. (place_of t).line ≡ line + suc k) (λ t e. omega (arith, next_number (in_line b) line)) _ rest

abbrev byte_of : Tok → ℕ
byte_of t = (place_of t).byte

abbrev Rises : List Tok → Type 0
Rises [] = Unit {0}
Rises (t ∷ ts) = All (λ s. byte_of t < byte_of s) ts × Rises ts

pub each_pair : (ts : List Tok) → Rises ts → (i j : ℕ) (d : Tok) → i < j → j < length ts → byte_of (get_or ts i d) < byte_of (get_or ts j d)
each_pair [] r i j d l h = absurd (omega arith)
each_pair (t ∷ ts) r i zero d l h = absurd (omega arith)
each_pair (t ∷ ts) r zero (suc j) d l h = r.0 j d (omega arith)
each_pair (t ∷ ts) r (suc i) (suc j) d l h = each_pair ts r.1 i j d (omega arith) (omega arith)

rises_append : (m : ℕ) (ss ts : List Tok) → Rises ss → Rises ts → All (λ t. byte_of t < m) ss → All (λ t. m ≤ byte_of t) ts → Rises (ss ++ ts)
rises_append m [] ts r q low high = q
rises_append m (s ∷ ss) ts r q low high =
    let first : byte_of s < m = All-head (λ t. byte_of t < m) s ss low in (
      All-append (λ t. byte_of s < byte_of t) ss ts r.0 (All-weaker (λ t. m ≤ byte_of t) (λ t. byte_of s < byte_of t) (λ t l. omega arith) ts high),
      rises_append m ss ts r.1 q (All-tail (λ t. byte_of t < m) s ss low) high,
    )

rises_more : (v : Bool) (t : Tok) (ts : List Tok) → All (λ s. byte_of t < byte_of s) ts → Rises ts → Rises (elim v [ true ↦ t ∷ ts | false ↦ ts ])
rises_more true t ts above r = (above, r)
rises_more false t ts above r = r

placed_at : (line at : ℕ) (run : List ℕ) → byte_of (token_of run (record { line = line; byte = at })) ≡ at
placed_at line at run = ap (λ p. p.byte) (place_of_token run (record { line = line; byte = at }))

line_from : (inside : Bool) (line at : ℕ) (bs : List ℕ) → All (λ t. at ≤ byte_of t) (tokens_from inside line at bs)
unfolding tokens_from
line_from inside line at [] = All-nil (λ t. at ≤ byte_of t)
line_from inside line at (b ∷ bs) =
    one_more (λ t. at ≤ byte_of t) (is_ink b && not inside) _ _ (λ _. omega (arith, placed_at line at (front is_ink (b ∷ bs)))) (All-weaker (λ t. at + 1 ≤ byte_of t) (λ t. at ≤ byte_of t) (λ t l. omega arith) _ (line_from (is_ink b) line (at + 1) bs))

line_below : (inside : Bool) (line at : ℕ) (bs : List ℕ) → All (λ t. byte_of t < at + length bs) (tokens_from inside line at bs)
unfolding tokens_from
line_below inside line at [] = All-nil (λ t. byte_of t < at + 0)
line_below inside line at (b ∷ bs) =
    one_more (λ t. byte_of t < at + length (b ∷ bs)) (is_ink b && not inside) _ _ (λ _. omega (arith, placed_at line at (front is_ink (b ∷ bs)))) (All-weaker (λ t. byte_of t < at + 1 + length bs) (λ t. byte_of t < at + length (b ∷ bs)) (λ t l. omega arith) _ (line_below (is_ink b) line (at + 1) bs))

line_rises : (inside : Bool) (line at : ℕ) (bs : List ℕ) → Rises (tokens_from inside line at bs)
unfolding tokens_from
line_rises inside line at [] = tt
line_rises inside line at (b ∷ bs) =
    let t = token_of (front is_ink (b ∷ bs)) (record { line = line; byte = at }) in
    let here = placed_at line at (front is_ink (b ∷ bs)) in
    rises_more (is_ink b && not inside) t _ (All-weaker (λ s. at + 1 ≤ byte_of s) (λ s. byte_of t < byte_of s) (λ s l. omega (arith, here)) _ (line_from (is_ink b) line (at + 1) bs)) (line_rises (is_ink b) line (at + 1) bs)

abbrev joined : List (List Tok) → List Tok
joined lines = flat_map (λ line. line) lines

lines_above : (inside : Bool) (line at : ℕ) (bs : List ℕ) → All (λ t. at ≤ byte_of t) (joined (lines_from inside line at bs))
unfolding lines_from
lines_above inside line at [] = All-nil (λ t. at ≤ byte_of t)
lines_above true line at (b ∷ bs) =
    All-weaker (λ t. at + 1 ≤ byte_of t) (λ t. at ≤ byte_of t) (λ t l. omega arith) _ (lines_above (in_line b) (cond (in_line b) line (line + 1)) (at + 1) bs)
lines_above false line at (b ∷ bs) =
    let rest = All-weaker (λ t. at + 1 ≤ byte_of t) (λ t. at ≤ byte_of t) (λ t l. omega arith) _ (lines_above (in_line b) (cond (in_line b) line (line + 1)) (at + 1) bs) in
    All-append (λ t. at ≤ byte_of t) _ _ (line_from false line at (front in_line (b ∷ bs))) rest

-- the lines behind one
behind_line : (line at : ℕ) (bs : List ℕ) → All (λ t. at + length (front in_line bs) ≤ byte_of t) (joined (lines_from true line at bs))
behind_line line at bs =
    let size = prefix_len in_line bs in
    let low = lines_above false (line + 1) (at + size + 1) (drop 1 (drop size bs)) in
    All-same (λ t. at + length (front in_line bs) ≤ byte_of t) _ _ (ap joined (past_line line at bs)) (All-weaker (λ t. at + size + 1 ≤ byte_of t) (λ t. at + length (front in_line bs) ≤ byte_of t) (λ t l. omega (arith, length-prefix_len in_line bs)) _ low)

pub lines_rise : (inside : Bool) (line at : ℕ) (bs : List ℕ) → Rises (joined (lines_from inside line at bs))
unfolding lines_from
lines_rise inside line at [] = tt
lines_rise true line at (b ∷ bs) = lines_rise (in_line b) (cond (in_line b) line (line + 1)) (at + 1) bs
lines_rise false line at (b ∷ bs) =
    let first = front in_line (b ∷ bs) in
    rises_append (at + length first) _ _ (line_rises false line at first) (lines_rise (in_line b) (cond (in_line b) line (line + 1)) (at + 1) bs) (line_below false line at first) (behind_line line at (b ∷ bs))
