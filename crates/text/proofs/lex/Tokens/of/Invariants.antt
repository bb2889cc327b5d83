-- `Tokens::of`: what its loop keeps.
use Rattle.std.proofs.Common.{◌≡◌, ◌+◌, false, ◌++◌, take, drop}
use Rattle.text.specs.Tokens.{tokens_from}
use Rattle.text.specs.Seen.{held}
use Rattle.text.proofs.lex.Tokens.of.Given as goal

-- what is held and what is left give the whole line's tokens
abbrev pub invariant-loop-at : goal.invariant-loop-at
invariant-loop-at l =
    take 7 (held l.tokens ++ tokens_from l.inside l.place.line (l.place.byte + l.at) (drop l.at l.line)) ≡ take 7 (tokens_from false l.place.line l.place.byte l.line)
