use Rattle.std.proofs.Common.{◌≡◌, ◌+◌, ◌++◌, ◌∷◌, drop, drop-cons, get_or, rules, arith}
use Rattle.std.proofs.lemmas.Grind.{common_steps}
use Rattle.std.specs.Prelude.{pos}
use Rattle.std.specs.Fmt.{signed_decimal}
use Rattle.std.proofs.lemmas.Int.{to_z-of_z}
use Rattle.yt_run.specs.RunText.{spaced_values}
use Rattle.yt_run_laws.specs.Values.{IsValue}
use Rattle.yt_cmd_run.proofs.Values.{passes_on, all_passed, text_on}
use Rattle.yt_cmd_run.proofs.text.put_values.Goals as goal

pub loop-value-preserved : goal.loop-value-preserved
loop-value-preserved c =
    let values = c.args.values.now in
    let i = c.loop-value.value-index in
    let value = get_or values i (pos 0) in
    let fits : IsValue value = search rules in
    let put = rw to_z-of_z at c.in_ok-put_value.ensures in
    let cut : drop i values ≡ value ∷ drop (i + 1) values = grind (arith, common_steps, drop-cons values i (pos 0) c.loop-value-test.true) in
    let step : c.loop-value.text ++ spaced_values (value ∷ drop (i + 1) values) ≡ c.args.text.now ++ spaced_values values = rw cut at c.loop-value.invariant.0 in (
      text_on c.put_value.new.text c.loop-value.text (c.args.text.now ++ spaced_values values) (32 ∷ signed_decimal value) (spaced_values (drop (i + 1) values)) put step,
      passes_on IsValue values i value cut fits c.loop-value.invariant.1,
    )

pub returns-clause-values : goal.returns-clause-values
returns-clause-values c = all_passed IsValue c.args.values.now c.loop-value.value-index (omega arith) c.loop-value.invariant.1
