-- What the loop over the digits keeps: the value of those so far, which is below 10 to the power of their count.
use Rattle.std.proofs.Common.{◌≡◌, ◌^◌, ◌<◌, take}
use Rattle.forms.specs.Words.{value}
use Rattle.forms.proofs.word.digits_value.Given as goal

abbrev pub invariant-loop-digit : goal.invariant-loop-digit
invariant-loop-digit l = record { so_far : l.value ≡ value (take l.digit-index l.digits); small : l.value < 10 ^ l.digit-index }
