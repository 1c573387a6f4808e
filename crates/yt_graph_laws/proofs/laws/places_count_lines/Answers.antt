use Rattle.yt_graph_laws.proofs.Places.{places_count_lines}
use Rattle.yt_graph_laws.proofs.laws.places_count_lines.Goals as goal

pub returns : goal.returns
returns c = places_count_lines
