use Rattle.std.proofs.Common.{◌≡◌, true, arith}
use Rattle.yt_grammar.specs.declared.sign.Keyword.TheVariants as keys
use Rattle.yt_grammar.specs.Inside.Reading.{at_key, out_reader}
use Rattle.yt_parser.proofs.parsing.Loops.{goes_on-begin, goes_on-step}
use Rattle.yt_parser.proofs.parse_port.outs.Goals as goal

pub outs-init : goal.outs-init
outs-init c = (omega arith, rw c.new-outs.ensures (goes_on-begin (at_key keys.Out) out_reader c.args.cursor.now))

pub outs-preserved : goal.outs-preserved
outs-preserved c =
    let test : at_key keys.Out c.outs.cursor ≡ true = cc in
    (omega (arith, c.in_ok-decl.ensures.less), rw c.in_ok-push.ensures.ok (goes_on-step _ _ _ _ _ _ _ c.outs.invariant.1 test c.in_ok-decl.ensures.read c.in_ok-decl.ensures.less))
