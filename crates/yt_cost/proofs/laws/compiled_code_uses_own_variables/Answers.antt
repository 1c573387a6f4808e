use Rattle.yt_cost.proofs.CodeOwn.{uses_own}
use Rattle.yt_cost.proofs.laws.compiled_code_uses_own_variables.Goals as goal

pub returns : goal.returns
returns c = uses_own
