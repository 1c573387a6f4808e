use Rattle.std.proofs.Common.{◌≡◌, true, arith}
use Rattle.yt_grammar.specs.declared.sign.Mark.TheVariants.{Comma}
use Rattle.yt_grammar.specs.Inside.Reading.{at_mark, word_reader}
use Rattle.yt_parser.proofs.parsing.Loops.{goes_on-first, goes_on-step}
use Rattle.yt_parser.proofs.parse_port.words.Goals as goal

pub words-init : goal.words-init
words-init c = (omega (arith, c.in_ok-first.ensures.less), rw (c.in_ok-push.ensures.ok, c.new-words.ensures) (goes_on-first word_reader _ _ _ c.in_ok-first.ensures.read))

pub words-preserved : goal.words-preserved
words-preserved c =
    let test : at_mark Comma c.words.cursor ≡ true = cc in
    (omega (arith, c.in_ok-next.ensures.less), rw c.in_ok-push-2.ensures.ok (goes_on-step _ _ _ _ _ _ _ c.words.invariant.1 test c.in_ok-next.ensures.read c.in_ok-next.ensures.less))
