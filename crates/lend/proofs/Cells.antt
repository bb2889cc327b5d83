-- A word's three cells in an image: when power fails at the second, and mended.
use Rattle.std.proofs.Common.{◌≡◌, ℕ, Bool, true, false, eqb, List, [], ◌∷◌, set, get_or, Some, None, Ok, Option, Result, Err, inl, inr, sym, ap, ◌∙◌, subst, refl, arith}
use Rattle.std.proofs.lemmas.Bool.{eqb-true}
use Rattle.std.proofs.lemmas.List.{set-get_or, set-set}
use Rattle.memory.specs.declared.doubt.Doubt.{Doubt}
use Rattle.memory.specs.declared.fault.Fault.{Fault}
use Rattle.memory.specs.Value.{Kind, Relit, Value, cut_short, settled}
use Rattle.lowest.specs.Lowest.{LowestLawful, Stands, left_in_image, lowest_kind, lowest_value}
use Rattle.cells.specs.Triple.{mending, stores}
use Rattle.cells.specs.Cells.{mended_below, stored_to, thirds}
use Rattle.cells.specs.Three.{MendsAll, handed_on, raised}
use Rattle.cells.proofs.Stores.{lit_is, lit_value}

-- cells that are told but for the second, and what is found there
found : (held : List ℕ) (word old x : ℕ) → set held 1 old ≡ word ∷ old ∷ old ∷ [] → get_or held 1 0 ≡ x → held ≡ word ∷ x ∷ old ∷ []
found held word old x told is = sym (set-get_or held 1 0) ∙ ap (set held 1) is ∙ sym (set-set held 1 old x) ∙ ap (λ ws. set ws 1 x) told

-- cut at the second, the scrap stands there
pub left_by_cut : (kind : Kind) (held : List ℕ) (even : Bool) (charge : ℕ) (lit : Bool) (scrap : ℕ) (doubt : Option Doubt) (old word : ℕ) (v : Value) → v.words ≡ word ∷ old ∷ old ∷ []
    → lowest_value kind held charge lit doubt ≡ cut_short v 1 word → LowestLawful left_in_image held even charge lit scrap doubt → held ≡ word ∷ scrap ∷ old ∷ []
left_by_cut kind held even charge lit scrap doubt old word v cells is lawful =
    let here : get_or v.words 1 0 ≡ old = ap (λ ws. get_or ws 1 0) cells in
    let d : doubt ≡ Some (record { place = 1; old = old; new = word }) = ap (λ x. x.doubt) is ∙ ap (λ o. Some (record { place = 1; old = o; new = word })) here in
    let words : set held 1 old ≡ word ∷ old ∷ old ∷ [] = subst (λ x. settled x held ≡ word ∷ old ∷ old ∷ []) d (ap (λ x. x.words) is ∙ cells) in
    let stands : Stands left_in_image held scrap (Some (record { place = 1; old = old; new = word })) = subst (Stands left_in_image held scrap) d lawful.stands in
    found held word old scrap words stands.1

-- all three hold the word
abbrev Filled : ℕ → Value → Type 0
Filled word v = (v.words ≡ word ∷ word ∷ word ∷ []) × (v.doubt ≡ None)

-- mended with a charge for two stores
filled : (buffer word : ℕ) (same : Bool) → eqb word 7 ≡ same → Filled word (stored_to (lit_value (word ∷ 7 ∷ 0 ∷ []) 2 (lowest_kind false buffer)) 0 (stores (mending false same (record { a = word; b = 7; c = 0 })))).value
filled buffer word true e = (let z : word ≡ 7 = eqb-true word 7 e in ap (λ x. word ∷ x ∷ word ∷ []) (sym z), refl)
filled buffer word false e = (refl, refl)

relit_filled : (buffer word : ℕ) (lit : Value) → Relit (lit_value (word ∷ 7 ∷ 0 ∷ []) 2 (lowest_kind false buffer)) 2 lit → Filled word (mended_below lit (thirds lit.words)).value
relit_filled buffer word lit r =
    let low = r.least in
    let high = r.most in
    let charge : lit.charge ≡ 2 = omega arith in
    let is : lit ≡ lit_value (word ∷ 7 ∷ 0 ∷ []) 2 (lowest_kind false buffer) = lit_is lit r.lit r.sure ∙ ap (λ ws. lit_value ws lit.charge lit.kind) r.found ∙ ap (λ n. lit_value (word ∷ 7 ∷ 0 ∷ []) n lit.kind) charge ∙ ap (lit_value (word ∷ 7 ∷ 0 ∷ []) 2) r.kind in
    subst (λ (v : Value). Filled word (mended_below v (thirds v.words)).value) (sym is) (filled buffer word (eqb word 7) refl)

-- a relight that is done fills the cells
pub relit_cells : (buffer word : ℕ) (v after : Value) (r : Result (Unit {0}) Fault) → v ≡ lit_value (word ∷ 7 ∷ 0 ∷ []) 2 (lowest_kind false buffer) → r ≡ Ok tt → MendsAll v 2 r after → Filled word after
relit_cells buffer word v after r is done (s, told, inl (e, cut, up)) = let no : Ok tt ≡ handed_on (raised (Err e)) = sym done ∙ told ∙ ap handed_on up in cc
relit_cells buffer word v after r is done (s, told, inr (lit, relit, follows)) =
    subst (Filled word) (sym follows.value) (relit_filled buffer word lit (subst (λ (x : Value). Relit x 2 lit) is relit))

pub held_then : (doubt : Option Doubt) (held words : List ℕ) → settled doubt held ≡ words → doubt ≡ None → held ≡ words
held_then doubt held words is sure = subst (λ x. settled x held ≡ words) sure is
