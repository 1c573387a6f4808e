use Rattle.std.proofs.Common.{arith, length, ◌∙◌}
use Rattle.std.proofs.lemmas.Int.{to_z-of_z}
use Rattle.std.specs.Int.{w64}
use Rattle.yt_mean.proofs.Exprs.{item_lighter, item_within, item_value, no_value}
use Rattle.yt_mean.proofs.value.+evaluate.Goals as goal

pub argument-value-requires : goal.argument-value-requires
argument-value-requires t c =
    let at = c.in-Some.ensures.lookup in
    let lighter = item_lighter c.args.args.now c.args.n c.in-Some.e.now at.3.0 at.1 in
    (omega (arith, lighter), item_within (length c.args.locals.now) (length c.args.vars.now) c.args.args.now c.args.n c.in-Some.e.now at.3.0 at.1 c.requires)

pub argument-returns-in-Some : goal.argument-returns-in-Some
argument-returns-in-Some t c =
    let at = c.in-Some.ensures.lookup in
    to_z-of_z w64 c.value.result (record { sfits = c.value.type_inv }) ∙ c.value.ensures
    ∙ item_value c.args.locals.now c.args.vars.now c.args.args.now c.args.n c.in-Some.e.now at.3.0 at.1

pub argument-returns-in-None : goal.argument-returns-in-None
argument-returns-in-None t c = no_value c.args.locals.now c.args.vars.now c.args.args.now c.args.n c.in-None.ensures.lookup.3
