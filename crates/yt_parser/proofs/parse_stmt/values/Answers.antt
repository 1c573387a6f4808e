use Rattle.std.proofs.Common.{ap}
use Rattle.yt_grammar.specs.Inside.Reading.{got}
use Rattle.yt_parser.proofs.parsing.Exprs.{exprs_of-map}
use Rattle.yt_parser.proofs.parse_stmt.values.Goals as goal

pub returns-clause-read : goal.returns-clause-read
returns-clause-read c =
    rw (c.in_ok-mark.ensures.read, c.in_ok-values.ensures.read, c.in_ok-mark-2.ensures.read) (ap (λ es. got es c.mark-2.new.self) (exprs_of-map c.in_ok-values.values.items))
