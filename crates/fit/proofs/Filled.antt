-- What is filled of a buffer when more is read behind it.
use Rattle.std.proofs.Common.{◌≡◌, ℕ, ◌+◌, ◌-◌, ◌≤◌, List, ◌++◌, Option, length, take, drop, sym, ap, ◌∙◌, subst, le_refl, drop_at, length-take-le}
use Rattle.std.proofs.lemmas.Slice.{take-put_mid_below}
use Rattle.std.specs.Io.KnownBytes.{Consumes}
use Rattle.std.proofs.KnownBytes.{Consumes-trans}
use borrow.Rule.Slice.PartMut.{put_mid, post_of}
use lib.Seq.{take-add, take-append-le}

joined : (f n : ℕ) (xs part : List ℕ) → f ≤ length xs → n ≤ length part → take f xs ++ take n part ≡ take (f + n) (put_mid f (length xs - f) xs part)
joined f n xs part within fits =
    let behind = post_of f (length xs - f) xs in
    let all = put_mid f (length xs - f) xs part in
    let front : take f all ≡ take f xs = take-put_mid_below _ _ _ _ _ (le_refl _) within in
    let rest : take n (drop f all) ≡ take n part = ap (take n) (drop_at (take f xs) (part ++ behind) f (length-take-le f xs within)) ∙ take-append-le n part behind fits in
    ap (λ l. l ++ take n part) (sym front) ∙ ap (λ l. take f all ++ l) (sym rest) ∙ sym (take-add f n all)

-- a read goes on where the last one ended
pub filled_more : (a b c : Option (List ℕ)) (f n : ℕ) (xs part : List ℕ) → f ≤ length xs → n ≤ length part → Consumes a b (take f xs) → Consumes b c (take n part)
    → Consumes a c (take (f + n) (put_mid f (length xs - f) xs part))
filled_more a b c f n xs part within fits before read = subst (Consumes a c) (joined f n xs part within fits) (Consumes-trans a b c _ _ before read)
