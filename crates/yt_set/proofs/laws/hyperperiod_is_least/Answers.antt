use Rattle.yt_set.proofs.Hyperperiods.{hyperperiod_is}
use Rattle.yt_set.proofs.laws.hyperperiod_is_least.Goals as goal

pub returns : goal.returns
returns c = hyperperiod_is
