use Rattle.yt_schedule_laws.proofs.Replaced.{none_is_replaced}
use Rattle.yt_schedule_laws.proofs.laws.none_is_replaced.Goals as goal

pub returns : goal.returns
returns c = none_is_replaced
