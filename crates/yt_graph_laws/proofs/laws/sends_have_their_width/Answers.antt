use Rattle.yt_graph_laws.proofs.Sends.{sends_have_their_width}
use Rattle.yt_graph_laws.proofs.laws.sends_have_their_width.Goals as goal

pub returns : goal.returns
returns c = sends_have_their_width
