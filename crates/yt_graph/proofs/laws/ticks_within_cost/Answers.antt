use Rattle.yt_graph.proofs.Within.{ticks_within}
use Rattle.yt_graph.proofs.laws.ticks_within_cost.Goals as goal

pub returns : goal.returns
returns c = ticks_within
