-- The examples, by computation.
use Rattle.std.proofs.Common.{refl}
use Rattle.plain.specs.Examples.{ExamplesHold}

pub examples_hold : ExamplesHold
examples_hold = record {
  due_date_sound = refl;
  before_any = refl;
  after_one = refl;
  after_two = refl;
  stopped_page = refl;
  still_stopped = refl;
  no_ending = refl;
  two_endings = refl;
  no_statement = refl;
  to_the_ending = refl;
  beyond_the_ending = refl;
  eight_emits = refl;
  nine_emits = refl;
}
