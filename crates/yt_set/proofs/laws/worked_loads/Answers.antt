use Rattle.std.proofs.Common.{refl}
use Rattle.yt_set.specs.Tasks.{gcd_by, lcm, multiple_from}
use Rattle.yt_set.proofs.laws.worked_loads.Goals as goal

pub returns : goal.returns
unfolding gcd_by lcm multiple_from
returns c = record { whole = refl; fits = refl; over = refl; none = refl }
