-- The examples compute.
use Rattle.std.proofs.Common.{refl, ap}
use Rattle.std.proofs.Math.Decide.{dec_le, dec_lt}
use Rattle.std.specs.Option.{option_map}
use Rattle.text.specs.declared.refusal.Refusal.{Refusal}
use Rattle.text.specs.Refusals.{told_of}
use Rattle.text.specs.Tokens.{lines_from, tokens_from}
use Rattle.forms.specs.Forms.{form_of}
use Rattle.grammar.specs.Names.{index_of, is_among, place_among, reach_with}
use Rattle.rounds.specs.Rounds.{first_line, text_offence}
use Rattle.rounds.specs.Laws.{here}
use Rattle.rounds.specs.Examples.{ExamplesHold}
use Rattle.rounds.proofs.Laws.{text_told}

pub examples_hold : ExamplesHold
unfolding text_offence first_line lines_from tokens_from form_of index_of is_among place_among reach_with dec_lt dec_le
examples_hold = record {
  nothing = refl;
  no_task = refl;
  no_ending = refl;
  input_declared = refl;
  first_too_large = refl;
  declared_twice = refl;
  no_operator = refl;
  unknown_target = refl;
  no_number = refl;
  number_as_task = refl;
  unknown_task = refl;
  skips_too_far = refl;
  behind_the_ending = refl;
  too_long = λ text l. ap (option_map told_of) (((text_told text).refused Refusal.TooLong).1 (here (l, refl)));
  tabulator = refl;
  ninth_local = refl;
  nine_emits = refl;
  statement_65 = refl;
  task_behind = refl;
  nothing_behind = refl;
  late_variable = refl;
  comment_behind = refl;
  six_digits = refl;
  skips_none = refl;
  skips_sixteen = refl;
  skips_a_name = refl;
  signed = refl;
  ninth_input = refl;
  declared_in8 = refl;
  keywords_named = refl;
  skips_to_the_ending = refl;
  due_dates = refl;
}
