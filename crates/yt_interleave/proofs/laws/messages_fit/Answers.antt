use Rattle.yt_interleave.proofs.Fitting.{messages_fit}
use Rattle.yt_interleave.proofs.laws.messages_fit.Goals as goal

pub returns : goal.returns
returns c = messages_fit
