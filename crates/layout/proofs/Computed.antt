-- The examples, by computation.
use Rattle.std.proofs.Common.{refl}
use Rattle.layout.specs.Chains.{astray, chain_words}
use Rattle.layout.specs.Examples.{ExamplesHold}

pub examples_hold : ExamplesHold
unfolding astray chain_words
examples_hold = record {
  page = refl;
  least = refl;
  longest = refl;
  words = refl;
  whole = refl;
  one_entry = refl;
  no_commit = refl;
  other_head = refl;
  leads_elsewhere = refl;
  leads_back = refl;
  for_head = refl;
  outside = refl;
  twice = refl;
  falling = refl;
  unknown_task = refl;
  stopped = refl;
  behind_stop = refl;
  nine_words = refl;
  eight_words = refl;
  any_word = refl;
}
