use Rattle.std.proofs.Common.{◌≡◌, ◌+◌, ◌∷◌, get_or, drop, add-one, drop-cons, arith}
use Rattle.std.proofs.lemmas.Grind.{common_steps}
use Rattle.yt_base.specs.Digits.{value_of}
use Rattle.yt_base.proofs.Values.{goes_on}
use Rattle.yt_base.proofs.numbers.digits.Goals as goal

pub loop-b-preserved : goal.loop-b-preserved
loop-b-preserved c =
    let text = c.args.text.now in
    let i = c.loop-b.b-index in
    let cut : drop i text ≡ get_or text i 0 ∷ drop (i + 1) text = rw add-one (drop-cons text i 0 c.loop-b-test.true) in
    let on = rw cut at c.loop-b.invariant.1 in
    (grind (arith, common_steps), rw c.then_digit-value.ensures (goes_on c.loop-b.value (get_or text i 0) (drop (i + 1) text) (value_of text) on))
