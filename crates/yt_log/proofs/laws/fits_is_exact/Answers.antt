use Rattle.yt_log.proofs.Exact.{fits_is_exact}
use Rattle.yt_log.proofs.laws.fits_is_exact.Goals as goal

pub returns : goal.returns
returns c = fits_is_exact
