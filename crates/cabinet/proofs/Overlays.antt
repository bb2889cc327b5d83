-- Words over others.
use Rattle.std.proofs.Common.{◌≡◌, ℕ, zero, suc, ◌<◌, Bool, true, false, cond, List, [], ◌∷◌, length, set, refl, ap, ap₂, ◌∙◌, arith}
use Rattle.laws.specs.Views.{overlay}

-- only the tests of the words that there are matter
pub overlay_same : (f g : ℕ → Bool) (cs ms : List ℕ) → ((v : ℕ) → v < length cs → f v ≡ g v) → overlay f cs ms ≡ overlay g cs ms
overlay_same f g [] ms h = refl
overlay_same f g (c ∷ cs) [] h = refl
overlay_same f g (c ∷ cs) (m ∷ ms) h = ap₂ (λ b xs. cond b c m ∷ xs) (h 0 (omega arith)) (overlay_same (λ v. f (suc v)) (λ v. g (suc v)) cs ms (λ v l. h (suc v) (omega arith)))

over_itself : (b : Bool) (c m : ℕ) → cond b (cond b c m) c ≡ c
over_itself true c m = refl
over_itself false c m = refl

-- words over others, over themselves
pub overlay_back : (f : ℕ → Bool) (cs ms : List ℕ) → overlay f (overlay f cs ms) cs ≡ cs
overlay_back f [] [] = refl
overlay_back f [] (m ∷ ms) = refl
overlay_back f (c ∷ cs) [] = refl
overlay_back f (c ∷ cs) (m ∷ ms) = ap₂ (λ x xs. x ∷ xs) (over_itself (f 0) c m) (overlay_back (λ v. f (suc v)) cs ms)

put_first : (b : Bool) (x c : ℕ) (cs : List ℕ) → cond b x c ∷ cs ≡ cond b (x ∷ cs) (c ∷ cs)
put_first true x c cs = refl
put_first false x c cs = refl

put_behind : (b : Bool) (c : ℕ) (xs ys : List ℕ) → c ∷ cond b xs ys ≡ cond b (c ∷ xs) (c ∷ ys)
put_behind true c xs ys = refl
put_behind false c xs ys = refl

over_none : (f : ℕ → Bool) (xs : List ℕ) → overlay f xs [] ≡ []
over_none f [] = refl
over_none f (x ∷ xs) = refl

none_either : (b : Bool) → [] ≡ cond {A = List ℕ} b [] []
none_either true = refl
none_either false = refl

-- a word set in between is set where the test says so
pub overlay_set : (f : ℕ → Bool) (cs ms : List ℕ) (v x : ℕ) → v < length ms → overlay f (set (overlay f cs ms) v x) cs ≡ cond (f v) (set cs v x) cs
overlay_set f [] ms v x l = over_none f (set (overlay f [] ms) v x) ∙ none_either (f v)
overlay_set f (c ∷ cs) [] v x l = absurd (omega arith)
overlay_set f (c ∷ cs) (m ∷ ms) zero x l = ap (λ xs. cond (f 0) x c ∷ xs) (overlay_back (λ v. f (suc v)) cs ms) ∙ put_first (f 0) x c cs
overlay_set f (c ∷ cs) (m ∷ ms) (suc v) x l =
    ap₂ (λ y xs. y ∷ xs) (over_itself (f 0) c m) (overlay_set (λ v. f (suc v)) cs ms v x (omega arith)) ∙ put_behind (f (suc v)) c (set cs v x) cs
