-- A short list as a value, and what a push does to it.
use Rattle.std.specs.Prelude.{ℕ, cond, List, [], ◌∷◌, ◌++◌, length, take, nat_lt}
use Rattle.words.specs.declared.list.Short.{Short}

-- the items that count
abbrev pub items : {A : Type 0} {N : ℕ} → Short A N → List A
items s = take s.count s.items

-- an item more at the end of a list that holds at most N
abbrev pub pushed : {A : Type 0} → ℕ → List A → A → List A
pushed N xs x = cond (nat_lt (length xs) N) (xs ++ x ∷ []) xs
