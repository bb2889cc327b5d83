-- What a cut leaves in a buffer.
use Rattle.std.proofs.Common.{◌≡◌, ℕ, ◌<◌, List, length, get_or, set, ◌∙◌}
use Rattle.std.proofs.lemmas.List.{get_or-set_same, set-get_or, set-set}

-- the word that was left stands at the place, and the one that stood can be put back
pub left_there : (held after : List ℕ) (p left : ℕ) → after ≡ set held p left → p < length held → get_or after p 0 ≡ left
left_there held after p left e h = rw e (get_or-set_same held p left 0 h)

pub back_after : (held after : List ℕ) (p left old : ℕ) → after ≡ set held p left → old ≡ get_or held p 0 → set after p old ≡ held
back_after held after p left old e is = rw (e, is) (set-set held p left (get_or held p 0) ∙ set-get_or held p 0)
