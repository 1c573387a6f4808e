use Rattle.std.proofs.Common.{◌≡◌, drop}
use Rattle.yt_grammar.specs.Lexemes.{first_keyword}
use Rattle.yt_grammar.proofs.sign.first_keyword.Given as goal

-- what is left has the answer
abbrev pub invariant-loop-keyword : goal.invariant-loop-keyword
invariant-loop-keyword l = first_keyword (drop l.keyword-index l.keywords) l.bytes ≡ first_keyword l.keywords l.bytes
