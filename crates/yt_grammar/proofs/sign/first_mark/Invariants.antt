use Rattle.std.proofs.Common.{◌≡◌, drop}
use Rattle.yt_grammar.specs.Lexemes.{first_mark}
use Rattle.yt_grammar.proofs.sign.first_mark.Given as goal

-- what is left has the answer
abbrev pub invariant-loop-mark : goal.invariant-loop-mark
invariant-loop-mark l = first_mark (drop l.mark-index l.marks) l.bytes ≡ first_mark l.marks l.bytes
