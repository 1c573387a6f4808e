use Rattle.std.proofs.Common.{◌≡◌, ◌<◌, ◌^◌, sym, ap, ◌∙◌, arith}
use Rattle.std.proofs.lemmas.Grind.{common_steps}
use Rattle.yt_base.specs.declared.numbers.Decimal.TheVariants.{Value}
use Rattle.yt_base.specs.Digits.{digits_of_text}
use Rattle.yartos.proofs.Counts.{count_small}
use Rattle.yartos.proofs.words.count.Goals as goal

pub returns-in-Value : goal.returns-in-Value
returns-in-Value c =
    let is : Value c.in-Value.n ≡ digits_of_text c.args.word.now = sym c.in-Value.is ∙ c.digits.ensures ∙ ap digits_of_text c.as_bytes.ensures.value in
    let small : c.in-Value.n < 2 ^ 32 = count_small c.args.word.now c.in-Value.n c.if-word-gt-MOST_DIGITS.false is in
    grind (arith, common_steps)
