use Rattle.yt_cost.proofs.CodeKeeps.{keeps}
use Rattle.yt_cost.proofs.laws.steps_keep_to_variables.Goals as goal

pub returns : goal.returns
returns c = keeps
