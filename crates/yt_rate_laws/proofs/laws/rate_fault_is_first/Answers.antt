use Rattle.yt_rate_laws.proofs.Deciding.{rate_fault_is_first}
use Rattle.yt_rate_laws.proofs.laws.rate_fault_is_first.Goals as goal

pub returns : goal.returns
returns c = rate_fault_is_first
