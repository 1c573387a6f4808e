use Rattle.yt_trace.proofs.Keeping.{traces_keep_periods}
use Rattle.yt_trace.proofs.laws.traces_keep_periods.Goals as goal

pub returns : goal.returns
returns c = traces_keep_periods
