use Rattle.yt_graph.proofs.Within.{sends_within}
use Rattle.yt_graph.proofs.laws.sends_within_greatest.Goals as goal

pub returns : goal.returns
returns c = sends_within
