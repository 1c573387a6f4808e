use Rattle.yt_run_laws.proofs.HandlerValues.{handlers_keep_values}
use Rattle.yt_run_laws.proofs.laws.handlers_keep_values.Goals as goal

pub returns : goal.returns
returns c = handlers_keep_values
