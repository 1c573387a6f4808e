use Rattle.yt_order.proofs.Words.{words_are_ordered}
use Rattle.yt_order.proofs.laws.words_are_ordered.Goals as goal

pub returns : goal.returns
returns c = words_are_ordered
