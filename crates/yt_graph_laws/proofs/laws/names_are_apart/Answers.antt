use Rattle.yt_graph_laws.proofs.NamesApart.{names_are_apart}
use Rattle.yt_graph_laws.proofs.laws.names_are_apart.Goals as goal

pub returns : goal.returns
returns c = names_are_apart
