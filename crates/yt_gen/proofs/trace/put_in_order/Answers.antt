use Rattle.std.proofs.Common.{rules}
use Rattle.yt_gen.proofs.MessageOrder.{in_order}
use Rattle.yt_gen.proofs.trace.put_in_order.Goals as goal

pub returns : goal.returns
returns c =
    in_order c.args.messages.now.items c.sort_by_key.new.self.items c.in_ok-sort_by_key.ensures.sorted c.in_ok-sort_by_key.ensures.stable (λ a r q k. search rules)
