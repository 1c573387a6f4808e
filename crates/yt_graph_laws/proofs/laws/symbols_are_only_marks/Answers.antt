use Rattle.yt_graph_laws.proofs.OnlyMarks.{symbols_are_only_marks}
use Rattle.yt_graph_laws.proofs.laws.symbols_are_only_marks.Goals as goal

pub returns : goal.returns
returns c = symbols_are_only_marks
