-- What tokens, lines and texts of the code stand for.
use Rattle.std.specs.Prelude.{List, map, take}
use Rattle.text.specs.Tokens.{Tok, word, number, comment, sign}
use Rattle.text.specs.declared.lex.Token.{Token}
use Rattle.text.specs.declared.lex.Tokens.{Tokens}

abbrev pub seen : Token → Tok
seen (Token.Word text p) = word text.now p
seen (Token.Number text p) = number text.now p
seen (Token.Comment text p) = comment text.now p
seen (Token.Sign text p) = sign text.now p

-- the tokens that a line of the code holds: its first seven
abbrev pub held : Tokens → List Tok
held line = map seen (take line.count line.tokens)
