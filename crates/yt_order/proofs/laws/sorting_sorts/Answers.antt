use Rattle.yt_order.proofs.Sorts.{sorting_sorts}
use Rattle.yt_order.proofs.laws.sorting_sorts.Goals as goal

pub returns : goal.returns
returns g c = sorting_sorts _
