use Rattle.yt_names.proofs.formed.Graph.{resolved_is_formed}
use Rattle.yt_names.proofs.laws.resolved_is_well_formed.Goals as goal

pub returns : goal.returns
returns c = resolved_is_formed
