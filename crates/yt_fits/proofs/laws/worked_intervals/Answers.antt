use Rattle.std.proofs.Common.{refl}
use Rattle.yt_fits.proofs.laws.worked_intervals.Goals as goal

pub returns : goal.returns
returns c = record { floor = refl; fits = refl; over = refl }
