use Rattle.yt_schedule_laws.proofs.Telling.{segments_tell_the_log}
use Rattle.yt_schedule_laws.proofs.laws.segments_tell_the_log.Goals as goal

pub returns : goal.returns
returns c = segments_tell_the_log
