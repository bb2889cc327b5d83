-- A proof that is a member of the interface: a three-cell memory keeps the limits.
use Rattle.std.specs.Prelude.{◌≡◌, ℕ, ◌+◌, ◌-◌, ◌*◌, ◌/◌, ◌<◌, ◌≤◌, Bool, true, false, cond, List, [], ◌∷◌, length, Option, nat_lt}
use Rattle.std.proofs.Common.{◌∙◌, arith}
use Rattle.std.proofs.lemmas.List.FromFn.{length-map-range_with_len}
use Rattle.memory.specs.declared.doubt.Doubt.{Doubt}
use Rattle.memory.specs.Value.{Kind, Limits, Value, length_settled, settled}
use Rattle.cells.specs.Triple.{A, B, C, Cell}
use Rattle.cells.specs.Cells.{lowest_of, place_of, word_of, words_of}
use Rattle.cells.specs.Three.{ThreeLawful, three_value}

pub length_words : (words : List ℕ) → length (words_of words) ≡ length words / 3
length_words words = length-map-range_with_len (word_of words) 0 (length words / 3)

-- whatever is in doubt
pub length_three_words : (doubt : Option Doubt) (words : List ℕ) → length (settled doubt (words_of words)) ≡ length words / 3
length_three_words doubt words = length_settled doubt (words_of words) ∙ length_words words

pub length_three : (below : Value) (lit : Bool) (doubt : Option Doubt) → length (three_value below lit doubt).words ≡ length below.words / 3
length_three below lit doubt = length_three_words doubt below.words

both_below : (b : Bool) (x y n : ℕ) → x ≤ n → y ≤ n → cond b x y ≤ n
both_below true x y n l m = l
both_below false x y n l m = m

pub within_three : (j : Cell) (p : ℕ) → (3 * p < place_of j p + 1) × (place_of j p < 3 * p + 3)
within_three A p = (omega arith, omega arith)
within_three B p = (omega arith, omega arith)
within_three C p = (omega arith, omega arith)

-- a store to a cell is cut at a place of the lowest memory
lowest_inside : (k : Kind) (n : ℕ) → ((charge p : ℕ) → p < n → k.lowest charge p < 32768) → (p : ℕ) → p < n / 3 → (cells : List Cell) (charge : ℕ) → lowest_of k charge p cells < 32768
lowest_inside k n told p h [] charge = omega arith
lowest_inside k n told p h (c ∷ rest) charge =
    let w = within_three c p in
    let here = told charge (place_of c p) (omega arith) in
    let later = lowest_inside k n told p h rest (charge - k.price) in
    let either : lowest_of k charge p (c ∷ rest) ≤ 32767 = both_below (nat_lt charge k.price) _ _ 32767 (omega arith) (omega arith) in
    omega arith

pub three_limits : (below : Value) (lit : Bool) (doubt : Option Doubt) → Limits below → ThreeLawful below lit doubt → Limits (three_value below lit doubt)
three_limits below lit doubt m t =
    let n = length_three below lit doubt in
    let c = both_below lit below.charge 0 below.charge (omega arith) (omega arith) in
    record {
      short = omega (arith, m.short);
      charge_high = omega (arith, m.charge_high);
      price_low = omega (arith, m.price_low);
      price_high = omega (arith, t.cheap);
      dues_high = omega (arith, t.cheap, t.low);
      layers_few = omega (arith, m.price_low, m.layers_few);
      sure_when_lit = t.sure;
      doubt_inside = λ d e. let h = t.doubt_inside d e in omega arith;
      places = record { inside = λ charge p h. lowest_inside below.kind (length below.words) m.places.inside p (omega arith) (A ∷ B ∷ C ∷ []) charge; own = λ e. absurd (omega arith) };
    }
