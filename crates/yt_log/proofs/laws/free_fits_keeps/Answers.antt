use Rattle.yt_log.proofs.Keeping.{free_fits_keeps}
use Rattle.yt_log.proofs.laws.free_fits_keeps.Goals as goal

pub returns : goal.returns
returns c = free_fits_keeps
