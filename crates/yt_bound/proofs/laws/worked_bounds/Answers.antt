use Rattle.std.proofs.Common.{refl}
use Rattle.yt_bound.proofs.laws.worked_bounds.Goals as goal

pub returns : goal.returns
returns c = record { none = refl; one = refl; other = refl; two = refl; jobs = refl; lines = refl; five = refl }
