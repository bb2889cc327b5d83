-- `through_a_cut`: the cells when power failed, the word that they read as when they are mended, and the cells then.
use Rattle.std.proofs.Common.{rules, ◌≡◌, false, [], ◌∷◌, ap, ◌∙◌}
use Rattle.memory.specs.Value.{cut_short, stored}
use Rattle.lowest.specs.Buffered.{seen_by}
use Rattle.lowest.specs.Image.{words_in}
use Rattle.lowest.specs.Lowest.{lowest_kind}
use Rattle.lowest.specs.contracts.backing.in_bytes.BytesBacking.TheImpl.{ghosts}
use Rattle.cells.proofs.Stores.{lit_value}
use Rattle.lend.proofs.Cells.{held_then, left_by_cut, relit_cells}
use Rattle.lend.proofs.keep.through_a_cut.Goals as goal

at_cut : (c : goal.After-into_backing) → words_in c.into_backing-bytes.result.0.now ≡ c.args.word ∷ 7 ∷ 0 ∷ []
at_cut c =
    let above = (c.in-Ok-new.ensures.2 c.in-Ok.ensures.lawful).1 in
    let v = stored (seen_by ghosts c.in-Ok.image) 0 c.args.word in
    let cells : v.words ≡ c.args.word ∷ 0 ∷ 0 ∷ [] = search rules in
    let left : seen_by ghosts c.write.new.self.below ≡ cut_short v 1 c.args.word = search rules in
    let held = left_by_cut _ _ _ _ _ _ _ 0 c.args.word v cells left (c.write.ensures.wrote above).0.0 in
    let scrap : c.write.new.self.below.scrap ≡ 7 = c.write.ensures.scrap 7 (search rules) in
    search rules

pub returns-clause-word : goal.returns-clause-word
returns-clause-word c = let cells : words_in c.into_backing-bytes.result.0.now ≡ c.args.word ∷ 7 ∷ 0 ∷ [] = at_cut c in search rules

pub returns-clause-cells : goal.returns-clause-cells
returns-clause-cells c =
    let m = c.in-Ok-new-2.ensures in
    let t = c.in-Ok-new-3.ensures in
    let kind = lowest_kind false c.into_backing-bytes.result.0.ghost_name in
    let seen = ap (seen_by ghosts) t.0 ∙ m.seen ∙ ap (λ ws. lit_value ws 2 kind) (at_cut c) in
    let full = relit_cells _ c.args.word (seen_by ghosts c.in-Ok-new-3.cells.below) (seen_by ghosts c.relight.new.self.below) _ seen c.unwrap.ensures (c.relight.ensures.below (t.2 m.lawful).1.0) in
    let held = held_then _ _ _ full.0 full.1 in
    ap (λ x. words_in x.0.now) (c.into_backing.ensures ∙ ap (λ i. i.backing) c.into_below-2.ensures) ∙ held
