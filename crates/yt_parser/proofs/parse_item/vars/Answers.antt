use Rattle.std.proofs.Common.{◌≡◌, true, arith}
use Rattle.yt_grammar.specs.declared.sign.Keyword.TheVariants as keys
use Rattle.yt_grammar.specs.Inside.Reading.{at_key, var_reader}
use Rattle.yt_parser.proofs.parsing.Loops.{goes_on-begin, goes_on-step}
use Rattle.yt_parser.proofs.parse_item.vars.Goals as goal

pub vars-init : goal.vars-init
vars-init c = (omega arith, rw c.new-vars.ensures (goes_on-begin (at_key keys.Var) var_reader c.args.cursor.now))

pub vars-preserved : goal.vars-preserved
vars-preserved c =
    let test : at_key keys.Var c.vars.cursor ≡ true = cc in
    (omega (arith, c.in_ok-decl.ensures.less), rw c.in_ok-push.ensures.ok (goes_on-step _ _ _ _ _ _ _ c.vars.invariant.1 test c.in_ok-decl.ensures.read c.in_ok-decl.ensures.less))
