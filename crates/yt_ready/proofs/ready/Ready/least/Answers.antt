use Rattle.yt_order.proofs.Lemmas.{least_at_end}
use Rattle.yt_ready.proofs.Orders.{entries_are_ordered}
use Rattle.yt_ready.proofs.ready.Ready.least.Goals as goal

pub returns : goal.returns
returns c = rw (← c.self.view_is) (least_at_end entries_are_ordered c.self.inside.entries.items c.copied.result c.self.invariant cc)
