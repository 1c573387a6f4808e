use Rattle.yt_graph_laws.proofs.Blanks.{blanks_are_space_and_comments}
use Rattle.yt_graph_laws.proofs.laws.blanks_are_space_and_comments.Goals as goal

pub returns : goal.returns
returns c = blanks_are_space_and_comments
