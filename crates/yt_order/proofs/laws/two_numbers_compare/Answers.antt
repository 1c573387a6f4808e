use Rattle.yt_order.proofs.Sorts.{two_numbers_compare}
use Rattle.yt_order.proofs.laws.two_numbers_compare.Goals as goal

pub returns : goal.returns
returns g c = two_numbers_compare _
