-- What a refusal tells: its number, its line and its byte.
use Rattle.std.specs.Prelude.{ℕ}
use Rattle.text.specs.declared.refusal.Place.{Place}
use Rattle.text.specs.declared.refusal.Told.{Told}
use Rattle.text.specs.declared.refusal.Refusal.{Refusal}

abbrev pub told_at : ℕ → Place → Told
told_at number place = record { number = number; line = place.line; byte = place.byte }

-- a place that is none
abbrev pub nowhere : Place
nowhere = record { line = 0; byte = 0 }

abbrev pub told_of : Refusal → Told
told_of Refusal.ShortScratch = told_at 7 nowhere
told_of Refusal.TooLong = told_at 10 nowhere
told_of (Refusal.Byte place) = told_at 11 place
told_of (Refusal.Form place) = told_at 12 place
told_of (Refusal.Name place) = told_at 13 place
told_of (Refusal.Unknown place) = told_at 14 place
told_of (Refusal.Number place) = told_at 15 place
told_of (Refusal.Limit place) = told_at 16 place
told_of (Refusal.Skip place) = told_at 17 place
told_of (Refusal.Unfinished length) = told_at 18 (record { line = 0; byte = length })
told_of (Refusal.Emits place) = told_at 19 place
