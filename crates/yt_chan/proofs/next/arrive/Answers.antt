use Rattle.std.proofs.Common.{◌≡◌, ◌+◌, ◌<◌, ap, subst, arith}
use Rattle.yt_chan.specs.declared.queue.WireQueue.{WireQueue}
use Rattle.yt_chan.specs.declared.inbox.Inbox.{Inbox}
use Rattle.yt_chan.specs.Inside.Queues.{count}
use Rattle.yt_chan.specs.Inside.Sound.{IsCursor}
use Rattle.yt_chan.proofs.QueueReads.{count_most}
use Rattle.yt_chan.proofs.NextTimes.{queue_is}
use Rattle.yt_chan.proofs.next.arrive.Goals as goal

pub values-requires : goal.values-requires
values-requires c =
    let place = c.args.inbox.now in
    let queue = c.index-queues-inbox.result in
    let e = queue_is c.args.queues.now place.wire queue c.requires.there c.index-queues-inbox.is in
    let P : WireQueue → Type 0 = λ x. place.next < x.first + count x in
    let w : place.next < queue.first + count queue = subst P e c.requires.waits in
    let m = count_most queue in
    let Q : WireQueue → Type 0 = λ x. IsCursor x place.next in
    let l = (subst Q e c.requires.at).least in
    omega arith

pub overflow_add-inbox : goal.overflow_add-inbox
overflow_add-inbox c =
    let w = c.requires.waits in
    let k = c.requires.counted in
    let e : c.put.new.self.next ≡ c.args.inbox.now.next = ap (λ (p : Inbox). p.next) c.put.ensures in
    omega arith
