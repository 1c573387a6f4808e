use Rattle.yt_cost.proofs.CodeMeans.{means_port}
use Rattle.yt_cost.proofs.laws.compiled_code_means_its_port.Goals as goal

pub returns : goal.returns
returns c = means_port
