use Rattle.yt_run.proofs.Faithful.{faithful_texts}
use Rattle.yt_run.proofs.laws.faithful_texts.Goals as goal

pub returns : goal.returns
returns c = faithful_texts
