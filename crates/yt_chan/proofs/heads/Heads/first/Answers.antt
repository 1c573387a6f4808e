use Rattle.yt_order.proofs.Lemmas.{least_at_end}
use Rattle.yt_chan.proofs.HeadOrder.{heads_are_ordered}
use Rattle.yt_chan.proofs.heads.Heads.first.Goals as goal

pub returns : goal.returns
returns c = rw (← c.self.view_is) (least_at_end heads_are_ordered c.self.inside.heads.items c.copied.result c.self.invariant.0 cc)
