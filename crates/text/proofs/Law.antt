-- The law of a text's lines.
use Rattle.std.proofs.Common.{◌≡◌, ℕ, ◌+◌, false, List, [], get_or, refl, arith}
use Rattle.std.proofs.lemmas.List.Elements.{All-weaker}
use Rattle.text.specs.Tokens.{place_of, lines_from}
use Rattle.text.specs.Runs.{AreLines}
use Rattle.text.proofs.Runs.{none_at_start, lines_sound}
use Rattle.text.proofs.Whole.{runs_whole}
use Rattle.text.proofs.Ordered.{lines_numbered, each_pair, lines_rise}

pub are_lines : (text : List ℕ) → AreLines text (lines_from false 1 0 text)
are_lines text = record {
  tokens = lines_sound text false 1 0 [] text refl refl refl (λ _. none_at_start);
  whole = runs_whole text;
  numbered = λ k h. All-weaker (λ t. (place_of t).line ≡ 1 + k) (λ t. (place_of t).line ≡ k + 1) (λ t e. omega arith) (get_or (lines_from false 1 0 text) k []) (lines_numbered false 1 0 text k h);
  in_order = each_pair _ (lines_rise false 1 0 text);
}
