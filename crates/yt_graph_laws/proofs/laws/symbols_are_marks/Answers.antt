use Rattle.yt_graph_laws.proofs.Symbols.{symbols_are_marks}
use Rattle.yt_graph_laws.proofs.laws.symbols_are_marks.Goals as goal

pub returns : goal.returns
returns c = symbols_are_marks
