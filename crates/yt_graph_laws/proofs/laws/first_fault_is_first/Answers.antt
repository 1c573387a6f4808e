use Rattle.yt_graph_laws.proofs.Deciding.{first_fault_is_first}
use Rattle.yt_graph_laws.proofs.laws.first_fault_is_first.Goals as goal

pub returns : goal.returns
returns c = first_fault_is_first
