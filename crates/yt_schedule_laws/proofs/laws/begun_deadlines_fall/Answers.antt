use Rattle.yt_schedule_laws.proofs.Falling.{begun_deadlines_fall}
use Rattle.yt_schedule_laws.proofs.laws.begun_deadlines_fall.Goals as goal

pub returns : goal.returns
returns c = begun_deadlines_fall
