-- What is found among the names of the code is what is found among their bytes.
use mathlib.Core.HLevel.{is_prop→PathP, ×_prop}
use native.Mathlib.Bridge.{le_prop}
use Rattle.std.proofs.Common.{arith, lt-ltb, subst, sym, ap, ◌∙◌, ◌≡◌, refl, ℕ, ◌≤◌, ◌<◌, ◌++◌, Bool, cond, List, [], ◌∷◌, map, length, Option, Some, None}
use Rattle.std.specs.List.{list_any, position, position_or_len}
use Rattle.std.specs.Option.{MatchOption, option_and_then, option_map}
use Rattle.std.specs.Borrow.{Bor}
use Rattle.std.specs.Str.{bytes_eq}
use Rattle.std.proofs.Math.Decide.{dec_le, dec_lt}
use Rattle.std.proofs.lemmas.List.{length-map, map-append}
use Rattle.program.specs.declared.statement.Index.{Index}
use Rattle.program.specs.declared.statement.Reach.{Reach}
use Rattle.program.proofs.Indices.{same_index}
use Rattle.words.specs.Lists.{pushed}
use Rattle.grammar.specs.Names.{bytes_of, index_if, index_of, is_among, place_among, reach_if, reach_with}

pub position_or_len_map : {A B : Type 0} (p : B → Bool) (f : A → B) (xs : List A) → position_or_len p (map f xs) ≡ position_or_len (λ x. p (f x)) xs
position_or_len_map p f [] = search
position_or_len_map p f (x ∷ xs) = search (position_or_len_map p f xs)

pub position_map : {A B : Type 0} (p : B → Bool) (f : A → B) (xs : List A) → position p (map f xs) ≡ position (λ x. p (f x)) xs
position_map p f xs = search (position_or_len_map p f xs, length-map)

pub any_map : {A B : Type 0} (p : B → Bool) (f : A → B) (xs : List A) → list_any p (map f xs) ≡ list_any (λ x. p (f x)) xs
any_map p f [] = refl
any_map p f (x ∷ xs) = search (any_map p f xs)

if_known : {N n : ℕ} (d : Dec (n < N)) (i : Index N) → i.number ≡ n → index_if d ≡ Some i
if_known {n = n} (yes q) i e = ap Some (same_index _ i (sym e))
if_known {N = N} {n = n} (no q) i e = absurd (q (subst (λ m. m < N) e i.known))

if_unknown : {N n : ℕ} (d : Dec (n < N)) → N ≤ n → index_if {N = N} d ≡ None
if_unknown (yes q) e = absurd (omega arith)
if_unknown (no q) e = refl

index_known : {N : ℕ} (i : Index N) (n : ℕ) → i.number ≡ n → index_of {N = N} n ≡ Some i
unfolding index_of
index_known {N} i n e = if_known (dec_lt n N) i e

pub index_unknown : {N : ℕ} (n : ℕ) → N ≤ n → index_of {N = N} n ≡ None
unfolding index_of
index_unknown {N} n e = if_unknown (dec_lt n N) e

pub place_seen : (names : List (Bor (List ℕ))) (word : List ℕ) → position (λ name. bytes_eq name.now word) names ≡ place_among (bytes_of names) word
unfolding place_among
place_seen names word = sym (position_map (λ name. bytes_eq name word) (λ name. name.now) names)

pub among_seen : (names : List (Bor (List ℕ))) (word : List ℕ) → list_any (λ name. bytes_eq name.now word) names ≡ is_among (bytes_of names) word
unfolding is_among
among_seen names word = sym (any_map (λ name. bytes_eq name word) (λ name. name.now) names)

pub index_made : {N : ℕ} (r : Option (Index N)) (n : ℕ) → MatchOption r (N ≤ n) (λ i. i.number ≡ n) → r ≡ index_of {N = N} n
index_made (Some i) n e = sym (index_known i n e)
index_made {N} None n e = sym (index_unknown {N = N} n e)

pub index_mapped : {N : ℕ} (r : Option (Index N)) (o : Option ℕ) → option_map (λ i. i.number) r ≡ o → r ≡ option_and_then index_of o
index_mapped (Some i) (Some n) e = sym (index_known i n cc)
index_mapped (Some i) None e = cc
index_mapped None (Some n) e = cc
index_mapped None None e = refl

same_reach : (a b : Reach) → a.count ≡ b.count → a ≡ b
same_reach a b e = λ i. record { count = e i; near = is_prop→PathP (λ j. (0 < e j) × (e j ≤ 15)) (λ j. ×_prop le_prop le_prop) a.near b.near i }

reach_known_if : {n : ℕ} (d : Dec (0 < n)) (f : Dec (n ≤ 15)) (r : Reach) → r.count ≡ n → reach_if d f ≡ Some r
reach_known_if {n} (yes p) (yes q) r e = ap Some (same_reach _ r (sym e))
reach_known_if {n} (yes p) (no q) r e = absurd (q (subst (λ m. m ≤ 15) e r.near.1))
reach_known_if {n} (no p) f r e = absurd (p (subst (λ m. 0 < m) e r.near.0))

pub reach_mapped : (r : Option Reach) (o : Option ℕ) → option_map (λ i. i.count) r ≡ o → r ≡ option_and_then reach_with o
unfolding reach_with
reach_mapped (Some r) (Some n) e = sym (reach_known_if (dec_lt 0 n) (dec_le n 15) r cc)
reach_mapped (Some r) None e = cc
reach_mapped None (Some n) e = cc
reach_mapped None None e = refl

pub bytes_of_pushed : (N : ℕ) (names : List (Bor (List ℕ))) (name : Bor (List ℕ)) → length names < N → bytes_of (pushed N names name) ≡ bytes_of names ++ name.now ∷ []
bytes_of_pushed N names name l = ap (λ b. map (λ n. n.now) (cond b (names ++ name ∷ []) names)) (lt-ltb (length names) N l) ∙ map-append (λ n. n.now) names (name ∷ [])
