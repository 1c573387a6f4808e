use Rattle.yt_code.proofs.Ready.{never_stuck}
use Rattle.yt_code.proofs.laws.valid_code_is_never_stuck.Goals as goal

pub returns : goal.returns
returns c = never_stuck
