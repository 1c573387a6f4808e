-- When the next message of a place is due.
use Rattle.std.proofs.Common.{◌≡◌, ℕ, ◌+◌, ◌-◌, ◌<◌, ◌≤◌, List, [], length, drop, get_or, Option, Some, None, sym, ◌∙◌, ap, subst, arith}
use Rattle.std.proofs.lemmas.List.{get_or_default, get_or_past}
use Rattle.yt_chan.specs.declared.wire.Wire.{Wire}
use Rattle.yt_chan.specs.declared.queue.WireQueue.{WireQueue}
use Rattle.yt_chan.specs.declared.inbox.Inbox.{Inbox}
use Rattle.yt_chan.specs.Wires.{wire_at, no_wire}
use Rattle.yt_chan.specs.Inside.Queues.{queue_at, no_queue, pending_of, count, time_at, waits_for}
use Rattle.yt_chan.specs.Inside.Next.{due_of}
use Rattle.yt_chan.proofs.QueueReads.{waiting_from, none_from}

-- the tick at which the next message of a place is due
abbrev pub next_time : List Wire → List WireQueue → Inbox → Option ℕ
next_time wires queues place = due_of (waits_for wires queues place.wire place.next)

pub queue_is : (queues : List WireQueue) (k : ℕ) (queue : WireQueue) → k < length queues → queue ≡ get_or queues k queue → queue_at queues k ≡ queue
queue_is queues k queue lt is = get_or_default queues k no_queue queue lt ∙ sym is

pub wire_is : (wires : List Wire) (k : ℕ) (wire : Wire) → k < length wires → wire ≡ get_or wires k wire → wire_at wires k ≡ wire
wire_is wires k wire lt is = get_or_default wires k no_wire wire lt ∙ sym is

none_counted : (gap n : ℕ) → drop n (pending_of gap no_queue) ≡ []
unfolding count
none_counted gap n = none_from gap no_queue n (omega arith)

-- no message waits for a place that no wire feeds
pub none_fed : (wires : List Wire) (queues : List WireQueue) (wire next : ℕ) → length queues ≤ wire → waits_for wires queues wire next ≡ []
unfolding waits_for
none_fed wires queues wire next past =
    let e : queue_at queues wire ≡ no_queue = get_or_past queues wire no_queue past in
    ap (λ (x : WireQueue). drop (next - x.first) (pending_of (wire_at wires wire).gap x)) e ∙ none_counted (wire_at wires wire).gap (next - 0)

pub none_next : (wires : List Wire) (queues : List WireQueue) (wire next : ℕ) → (queue_at queues wire).first + count (queue_at queues wire) ≤ next → waits_for wires queues wire next ≡ []
unfolding waits_for
none_next wires queues wire next past = none_from (wire_at wires wire).gap (queue_at queues wire) (next - (queue_at queues wire).first) (omega arith)

-- what the code finds out of the next message of a place
pub due_none_fed : (wires : List Wire) (queues : List WireQueue) (place : Inbox) → length queues ≤ place.wire → None ≡ next_time wires queues place
due_none_fed wires queues place past = sym (ap due_of (none_fed wires queues place.wire place.next past))

pub due_none : (wires : List Wire) (queues : List WireQueue) (place : Inbox) (queue : WireQueue) → queue_at queues place.wire ≡ queue → count queue ≤ place.next - queue.first → queue.first ≤ place.next → None ≡ next_time wires queues place
due_none wires queues place queue e past le =
    let P : WireQueue → Type 0 = λ x. x.first + count x ≤ place.next in
    sym (ap due_of (none_next wires queues place.wire place.next (subst P (sym e) (omega arith))))

due_here : (wires : List Wire) (queues : List WireQueue) (place : Inbox) → place.next - (queue_at queues place.wire).first < count (queue_at queues place.wire) →
    next_time wires queues place ≡ Some (time_at (wire_at wires place.wire).gap (queue_at queues place.wire) (place.next - (queue_at queues place.wire).first))
unfolding waits_for
due_here wires queues place lt = ap due_of (waiting_from (wire_at wires place.wire).gap (queue_at queues place.wire) (place.next - (queue_at queues place.wire).first) lt)

pub due_some : (wires : List Wire) (queues : List WireQueue) (place : Inbox) (queue : WireQueue) (wire : Wire) (time : ℕ) → queue_at queues place.wire ≡ queue → wire_at wires place.wire ≡ wire →
    place.next - queue.first < count queue → time ≡ time_at wire.gap queue (place.next - queue.first) → Some time ≡ next_time wires queues place
due_some wires queues place queue wire time e w lt is =
    let P : WireQueue → Type 0 = λ x. place.next - x.first < count x in
    sym (due_here wires queues place (subst P (sym e) lt)
    ∙ ap (λ (x : WireQueue). Some (time_at (wire_at wires place.wire).gap x (place.next - x.first))) e
    ∙ ap (λ (x : Wire). Some (time_at x.gap queue (place.next - queue.first))) w
    ∙ ap Some (sym is))
