use Rattle.std.proofs.Common.{◌-◌, ◌++◌, length, List, Option}
use Rattle.yt_lexer.specs.declared.token.Token.{Token}
use Rattle.yt_lexer.specs.declared.token.LexFault.{LexFault}
use Rattle.yt_lexer.specs.Inside.Spots.{IsSpot}
use Rattle.yt_lexer.specs.Lexes.{Lexes}
use Rattle.yt_lexer.proofs.lexing.lex.Given as goal

-- whatever the rest of the text has, the text has the tokens so far and then that
abbrev pub invariant-tokens : goal.invariant-tokens
invariant-tokens l = IsSpot l.text l.spot.at l.spot.place
    × ((rest : List Token) (end : Option LexFault) → Lexes l.text l.spot.at rest end → Lexes l.text 0 (l.tokens ++ rest) end)

abbrev pub decreases-tokens : goal.decreases-tokens
decreases-tokens l = length l.text - l.spot.at
