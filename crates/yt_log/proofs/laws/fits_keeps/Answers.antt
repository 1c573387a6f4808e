use Rattle.yt_log.proofs.Keeping.{fits_keeps}
use Rattle.yt_log.proofs.laws.fits_keeps.Goals as goal

pub returns : goal.returns
returns c = fits_keeps
