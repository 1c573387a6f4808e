use Rattle.yt_run_laws.proofs.ReadableNames.{names_are_readable}
use Rattle.yt_run_laws.proofs.laws.names_are_readable.Goals as goal

pub returns : goal.returns
returns c = names_are_readable
