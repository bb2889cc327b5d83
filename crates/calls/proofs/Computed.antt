-- The examples, by computation.
use Rattle.std.proofs.Common.{refl}
use Rattle.facts.specs.Sets.{empty, single, union}
use Rattle.layout.specs.Chains.{astray, chain_sound, chain_words}
use Rattle.calls.specs.Running.{set_entries}
use Rattle.calls.specs.Words.{next_at}
use Rattle.calls.specs.Opening.{stored_all, stores_answer}
use Rattle.calls.specs.Examples.{ExamplesHold}

pub examples_hold : ExamplesHold
unfolding set_entries next_at empty single union astray chain_sound chain_words stored_all stores_answer
examples_hold = record {
  fits_57 = refl;
  short_56 = refl;
  sixteen_stores = refl;
  laid_words = refl;
  first_entry = refl;
  no_task = refl;
  stored_directly = refl;
  not_stored = refl;
  run = refl;
  logged = refl;
  committed = refl;
  settles = refl;
  page = refl;
  cut = refl;
  idle = refl;
  busy = refl;
  not_taken = refl;
}
