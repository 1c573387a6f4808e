use Rattle.yt_cost.proofs.CodeValid.{is_valid}
use Rattle.yt_cost.proofs.laws.compiled_code_is_valid.Goals as goal

pub returns : goal.returns
returns c = is_valid
