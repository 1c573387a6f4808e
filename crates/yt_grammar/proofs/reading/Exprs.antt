-- The laws of reading expressions.
use Rattle.std.proofs.Common.{ℕ, zero, suc, arith}
use Rattle.yt_grammar.specs.Grammar.{value_form}
use Rattle.yt_grammar.specs.Inside.Reading.{expr_reader, value_reader}
use Rattle.yt_grammar.proofs.reading.Lawful.{Lawful}
use Rattle.yt_grammar.proofs.reading.Follows.{NotContinued}
use Rattle.yt_grammar.proofs.reading.Singles.{lawful_form}
use Rattle.yt_grammar.proofs.reading.Chains.{Fits}
use Rattle.yt_grammar.proofs.reading.ChainLaws.{InnerLaws}
use Rattle.yt_grammar.proofs.reading.RankLaws.{ranks_lawful}
use Rattle.yt_grammar.proofs.reading.Prims.{prim_lawful}
use Rattle.yt_grammar.proofs.reading.Args.{rank_most}

-- an expression of a rank, as deep as there is room, from its parts
level_lawful : (room rank : ℕ) → InnerLaws (expr_reader room) room → Lawful (expr_reader (suc room) rank) (Fits (suc room) rank) (NotContinued rank)
unfolding expr_reader
level_lawful room rank laws = ranks_lawful (expr_reader room) room laws (prim_lawful (expr_reader room) room laws) rank

-- an expression of a rank and a depth is read where none of its operators follow
pub expr_lawful : (room rank : ℕ) → Lawful (expr_reader (suc room) rank) (Fits (suc room) rank) (NotContinued rank)
expr_lawful zero rank = level_lawful zero rank (λ more. absurd (omega (arith, more)))
expr_lawful (suc room) rank = level_lawful (suc room) rank (λ more k le. expr_lawful room k)

-- an expression of a statement
pub value_lawful : Lawful value_reader value_form (NotContinued 7)
unfolding value_reader
value_lawful =
    lawful_form (expr_reader 32 7) (Fits 32 7) value_form (NotContinued 7)
    (λ e w h. (h.depth, h.spelled))
    (λ e w h. record { bound = rank_most e; depth = h.0; spelled = h.1 })
    (expr_lawful 31 7)
