-- What may follow an expression.
use Rattle.std.proofs.Common.{◌≡◌, ℕ, ◌<◌, false, Option, None, Some, List, [], ◌∷◌}
use Rattle.yt_graph.specs.declared.expr.Op2.{Op2}
use Rattle.yt_grammar.specs.declared.sign.Mark.TheVariants.{LeftParen}
use Rattle.yt_grammar.specs.Lexemes.{Tok}
use Rattle.yt_grammar.specs.Grammar.{op_rank}
use Rattle.yt_grammar.specs.Inside.Reading.{at_mark, op_in}

-- no operator, or one that binds more loosely than this
abbrev pub IsLooser : ℕ → Option Op2 → Type 0
IsLooser rank None = Unit {0}
IsLooser rank (Some op) = rank < op_rank op

-- the first token is no operator of this rank or a tighter one
abbrev pub NoOperator : ℕ → List Tok → Type 0
NoOperator rank [] = Unit {0}
NoOperator rank (t ∷ ts) = IsLooser rank (op_in t.says)

-- an expression of this rank doesn't go on with these tokens: no `(` is first, and no operator of this rank or a tighter one
pub record NotContinued (rank : ℕ) (s : List Tok) : Type 0 where
  pub no_paren : at_mark LeftParen s ≡ false
  pub no_operator : NoOperator rank s
