-- What the parts of a `Channels` mean, target by target.
use Rattle.std.proofs.Common.{◌≡◌, ℕ, ◌*◌, ◌<◌, ◌≤◌, cond, List, [], length, get_or, map, Some, None, refl, sym, ◌∙◌, ap, arith, ⊎_elim}
use Rattle.std.proofs.lemmas.Bool.{cases_lt}
use Rattle.std.proofs.lemmas.List.{get_or_past, get_or-map, length-map}
use Rattle.std.proofs.lemmas.List.Elements.{Contains-get_or}
use Rattle.std.proofs.lemmas.Nat.{mul-le}
use Rattle.yt_chan.specs.declared.wire.Wire.{Wire}
use Rattle.yt_chan.specs.declared.queue.WireQueue.{WireQueue}
use Rattle.yt_chan.specs.declared.target.Arrived.{Arrived}
use Rattle.yt_chan.specs.declared.target.Arrived.TheVariants.{Port, Output}
use Rattle.yt_chan.specs.declared.inbox.Inbox.{Inbox}
use Rattle.yt_chan.specs.declared.port.PortJob.{PortJob}
use Rattle.yt_chan.specs.Inside.Queues.{queue_at, no_queue, opened, waits_for, target_state, state_of}
use Rattle.yt_chan.specs.Inside.Next.{due_of}
use Rattle.yt_chan.specs.Inside.Sound.{IsSound, AreReadable, no_inbox, inbox_of}
use Rattle.yt_chan.specs.State.{TargetState, no_target, target_at, waits_at, placed_at, open_at}
use Rattle.yt_chan.specs.Wires.{wire_at}
use Rattle.yt_chan.proofs.QueueReads.{spreads}
use Rattle.yt_chan.proofs.NextTimes.{none_fed, next_time}

-- the list of what a function gives, at any place
map_at : {X Y : Type 0} (f : X → Y) (xs : List X) (i : ℕ) (d : X) (e : Y) → f d ≡ e → get_or (map f xs) i e ≡ f (get_or xs i d)
map_at f xs i d e same =
    ⊎_elim
    (λ (h : i < length xs). get_or-map f xs i d e h)
    (λ (h : length xs ≤ i). let l = length-map xs f in get_or_past (map f xs) i e (omega arith) ∙ sym same ∙ ap f (sym (get_or_past xs i d h)))
    (cases_lt i (length xs))

no_target_there : (wires : List Wire) (queues : List WireQueue) → length queues ≡ length wires → target_state wires queues (no_inbox (length wires)) ≡ no_target
unfolding target_state
no_target_there wires queues long =
    let e = none_fed wires queues (length wires) 0 (omega arith) in
    ap (λ ms. record { placed = None; waits = ms }) e

pub target_is : (widths : List ℕ) (wires : List Wire) (queues : List WireQueue) (jobs : List PortJob) (ports outputs : List Inbox) → length queues ≡ length wires → (target : Arrived) →
    target_at (state_of widths wires queues jobs ports outputs) target ≡ target_state wires queues (inbox_of (length wires) ports outputs target)
target_is widths wires queues jobs ports outputs long (Port n) = map_at (target_state wires queues) ports n (no_inbox (length wires)) no_target (no_target_there wires queues long)
target_is widths wires queues jobs ports outputs long (Output n) = map_at (target_state wires queues) outputs n (no_inbox (length wires)) no_target (no_target_there wires queues long)

pub waits_is : (widths : List ℕ) (wires : List Wire) (queues : List WireQueue) (jobs : List PortJob) (ports outputs : List Inbox) → length queues ≡ length wires → (target : Arrived) →
    waits_at (state_of widths wires queues jobs ports outputs) target ≡ waits_for wires queues (inbox_of (length wires) ports outputs target).wire (inbox_of (length wires) ports outputs target).next
unfolding target_state
waits_is widths wires queues jobs ports outputs long target = ap (λ (s : TargetState). s.waits) (target_is widths wires queues jobs ports outputs long target)

pub placed_is : (widths : List ℕ) (wires : List Wire) (queues : List WireQueue) (jobs : List PortJob) (ports outputs : List Inbox) → length queues ≡ length wires → (target : Arrived) →
    placed_at (state_of widths wires queues jobs ports outputs) target
    ≡ cond (inbox_of (length wires) ports outputs target).filled (Some (inbox_of (length wires) ports outputs target).values) None
unfolding target_state
placed_is widths wires queues jobs ports outputs long target = ap (λ (s : TargetState). s.placed) (target_is widths wires queues jobs ports outputs long target)

pub open_is : (widths : List ℕ) (wires : List Wire) (queues : List WireQueue) (jobs : List PortJob) (ports outputs : List Inbox) → (k : ℕ) →
    open_at (state_of widths wires queues jobs ports outputs) k ≡ opened (queue_at queues k)
unfolding opened
open_is widths wires queues jobs ports outputs k = map_at opened queues k no_queue [] refl

-- the tick at which the next message of a target is due
pub due_is : (widths : List ℕ) (wires : List Wire) (queues : List WireQueue) (jobs : List PortJob) (ports outputs : List Inbox) → length queues ≡ length wires → (target : Arrived) →
    due_of (waits_at (state_of widths wires queues jobs ports outputs) target) ≡ next_time wires queues (inbox_of (length wires) ports outputs target)
due_is widths wires queues jobs ports outputs long target = ap due_of (waits_is widths wires queues jobs ports outputs long target)

-- the targets can be read
pub are_readable : (widths : List ℕ) (wires : List Wire) (queues : List WireQueue) (jobs : List PortJob) (ports outputs : List Inbox) → IsSound widths wires queues jobs ports outputs → AreReadable wires queues ports outputs
are_readable widths wires queues jobs ports outputs is = record {
  long = is.long;
  bases = λ k lt. (is.each k (let l = is.long in omega arith)).bases;
  few = λ k lt. let l = is.long in let b : k < length wires = omega arith in let f = (is.each k b).few in let s = (is.wired.each k b).sends in (omega arith, omega arith);
  gaps = λ k lt.
      let l = is.long in let b : k < length wires = omega arith in let w = is.wired.each k b in let s = w.sends in let e = w.every in let p = w.period in
      let g = spreads widths (wire_at wires k) w in
      let m : 1 * (wire_at wires k).gap ≤ (wire_at wires k).sends * (wire_at wires k).gap = mul-le 1 (wire_at wires k).gap (wire_at wires k).sends (wire_at wires k).gap s.0 (omega arith) in
      let n : (wire_at wires k).every * (wire_at wires k).period ≤ 1000 * 1000000 = mul-le (wire_at wires k).every (wire_at wires k).period 1000 1000000 e.1 p.1 in
      omega arith;
  at = is.at;
  few_ports = let p = is.ports_long in let m = is.wired.many in omega arith;
  few_outputs = let p = is.outputs_long in omega arith;
  ports_there = λ k j lt b. let p = is.ports_long in let q = ((is.wired.each k lt).ports (get_or (wire_at wires k).ports j 0) (Contains-get_or (wire_at wires k).ports j 0 b)).0 in omega arith;
  outputs_there = λ k j lt b. let p = is.outputs_long in let q = (is.wired.each k lt).outputs (get_or (wire_at wires k).outputs j 0) (Contains-get_or (wire_at wires k).outputs j 0 b) in omega arith;
}
