use Rattle.yt_bound.proofs.Bounded.{runs_are_bounded}
use Rattle.yt_bound.proofs.laws.runs_are_bounded.Goals as goal

pub returns : goal.returns
returns c = runs_are_bounded
