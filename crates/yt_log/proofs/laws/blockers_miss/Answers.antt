use Rattle.yt_log.proofs.Blockers.{blockers}
use Rattle.yt_log.proofs.laws.blockers_miss.Goals as goal

pub returns : goal.returns
returns c = blockers
