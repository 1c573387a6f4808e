use Rattle.std.proofs.Common.{ap, ◌∙◌}
use Rattle.yt_set.specs.Tasks.{lcm}
use Rattle.yt_set.proofs.Lemmas.{lcm_by}
use Rattle.yt_fits.proofs.MultipleLemmas.{divisor_some}
use Rattle.yt_fits.proofs.multiple.lcm.Goals as goal

pub nonzero_div-result : goal.nonzero_div-result
nonzero_div-result c = divisor_some c.gcd.result c.args.number c.gcd.ensures.0 c.requires.number

pub returns : goal.returns
returns c = lcm_by c.args.number c.from-period.result c.gcd.result c.gcd.ensures ∙ ap (lcm c.args.number) c.from-period.ensures
