use Rattle.std.proofs.Common.{◌-◌, ◌≤◌, [], length, arith, sym, ap, subst, ◌∙◌}
use Rattle.yt_chan.specs.declared.wire.Wire.{Wire}
use Rattle.yt_chan.specs.declared.queue.WireQueue.{WireQueue}
use Rattle.yt_chan.specs.declared.inbox.Inbox.{Inbox}
use Rattle.yt_chan.specs.Inside.Queues.{queue_at, time_at}
use Rattle.yt_chan.specs.Inside.Sound.{IsCursor}
use Rattle.yt_chan.proofs.QueueReads.{count_most}
use Rattle.yt_chan.proofs.NextTimes.{queue_is, wire_is, next_time, due_none_fed, due_none, due_some}
use Rattle.yt_chan.proofs.ByTarget.{due_is}
use Rattle.yt_chan.proofs.next.time_of.Goals as goal

pub returns-then-inbox-queues : goal.returns-then-inbox-queues
returns-then-inbox-queues c =
    let wires = c.args.kept.now.wires.now in let queues = c.args.kept.now.queues.now in
    due_none_fed wires queues c.inbox_of-inbox.result.now c.if-inbox-queues.true ∙ ap (next_time wires queues) (c.inbox_of-inbox.ensures (length wires))
    ∙ sym (due_is [] wires queues [] c.args.kept.now.ports.now c.args.kept.now.outputs.now c.requires.readable.long c.args.target)

pub overflow_sub-taken : goal.overflow_sub-taken
overflow_sub-taken c =
    let queues = c.args.kept.now.queues.now in
    let place = c.inbox_of-inbox.result.now in
    let e = queue_is queues place.wire c.index-queues-inbox.result c.if-inbox-queues.false c.index-queues-inbox.is in
    let P : Inbox → Type 0 = λ x. IsCursor (queue_at queues x.wire) x.next in
    let Q : WireQueue → Type 0 = λ x. IsCursor x place.next in
    (subst Q e (subst P (sym (c.inbox_of-inbox.ensures (length c.args.kept.now.wires.now))) (c.requires.readable.at c.args.target))).least

pub time-requires-clause-few : goal.time-requires-clause-few
time-requires-clause-few c =
    let place = c.inbox_of-inbox.result.now in
    let queue = c.index-queues-inbox.result in
    let e = queue_is c.args.kept.now.queues.now place.wire queue c.if-inbox-queues.false c.index-queues-inbox.is in
    let P : WireQueue → Type 0 = λ x. (length x.older.messages ≤ 64) × (length x.newer.messages ≤ 64) in
    let f = subst P e (c.requires.readable.few place.wire c.if-inbox-queues.false) in
    let m = count_most queue in
    (f.0, omega arith)

pub returns-then-taken-count : goal.returns-then-taken-count
returns-then-taken-count c =
    let wires = c.args.kept.now.wires.now in let queues = c.args.kept.now.queues.now in
    let place = c.inbox_of-inbox.result.now in
    let queue = c.index-queues-inbox.result in
    let e = queue_is queues place.wire queue c.if-inbox-queues.false c.index-queues-inbox.is in
    let w = wire_is wires place.wire c.index-wires-inbox.result (let l = c.requires.readable.long in let b = c.if-inbox-queues.false in omega arith) c.index-wires-inbox.is in
    due_some wires queues place queue c.index-wires-inbox.result c.time.result e w (omega arith) (c.time.ensures ∙ ap (λ (x : Wire). time_at x.gap queue (place.next - queue.first)) (sym c.index-wires-inbox.is))
    ∙ ap (next_time wires queues) (c.inbox_of-inbox.ensures (length wires))
    ∙ sym (due_is [] wires queues [] c.args.kept.now.ports.now c.args.kept.now.outputs.now c.requires.readable.long c.args.target)

pub returns-else-taken-count : goal.returns-else-taken-count
returns-else-taken-count c =
    let wires = c.args.kept.now.wires.now in let queues = c.args.kept.now.queues.now in
    let place = c.inbox_of-inbox.result.now in
    let queue = c.index-queues-inbox.result in
    let e = queue_is queues place.wire queue c.if-inbox-queues.false c.index-queues-inbox.is in
    let P : Inbox → Type 0 = λ x. IsCursor (queue_at queues x.wire) x.next in
    let Q : WireQueue → Type 0 = λ x. IsCursor x place.next in
    let p = subst Q e (subst P (sym (c.inbox_of-inbox.ensures (length wires))) (c.requires.readable.at c.args.target)) in
    due_none wires queues place queue e (omega arith) p.least
    ∙ ap (next_time wires queues) (c.inbox_of-inbox.ensures (length wires))
    ∙ sym (due_is [] wires queues [] c.args.kept.now.ports.now c.args.kept.now.outputs.now c.requires.readable.long c.args.target)
