-- A `Channels` in which nothing has happened.
use Rattle.std.proofs.Common.{◌≡◌, ℕ, ◌+◌, ◌<◌, ◌≤◌, true, false, cond, List, [], length, get_or, replicate, Some, None, refl, sym, ◌∙◌, ap, subst, arith, ⊎_elim}
use Rattle.std.proofs.lemmas.Bool.{cases_lt, cases_Bool}
use Rattle.std.proofs.lemmas.List.{get_or_past, get_or-replicate, length-replicate}
use Rattle.std.proofs.lemmas.List.Sums.{position_or_len_is}
use Rattle.yt_chan.specs.declared.wire.Wire.{Wire}
use Rattle.yt_chan.specs.declared.queue.WireQueue.{WireQueue}
use Rattle.yt_chan.specs.declared.target.Arrived.{Arrived}
use Rattle.yt_chan.specs.declared.target.Arrived.TheVariants.{Port, Output}
use Rattle.yt_chan.specs.declared.inbox.Inbox.{Inbox}
use Rattle.yt_chan.specs.declared.port.PortJob.{PortJob}
use Rattle.yt_chan.specs.Inside.Banks.{no_batch}
use Rattle.yt_chan.specs.Changes.{IsInitial}
use Rattle.yt_chan.specs.Inside.Queues.{queue_at, no_queue, count, opened, waits_for, state_of}
use Rattle.yt_chan.specs.Inside.Sound.{IsSound, IsQueue, IsCursor, no_inbox, inbox_of, closed_at}
use Rattle.yt_chan.specs.State.{no_job}
use Rattle.yt_chan.specs.Wires.{AreWires, no_wire, feeds, wire_to, wire_at}
use Rattle.yt_chan.proofs.QueueChanges.{opened_open}
use Rattle.yt_chan.proofs.QueueReads.{count_open}
use Rattle.yt_chan.proofs.Table.{any_has}
use Rattle.yt_chan.proofs.NextTimes.{none_next}
use Rattle.yt_chan.proofs.ByTarget.{waits_is, placed_is, open_is}

-- a target past the tables has no wire_to
no_source : (wires : List Wire) (target : Arrived) → ((k : ℕ) → k < length wires → feeds (wire_at wires k) target ≡ true → ⊥) → wire_to wires target ≡ length wires
no_source wires target none =
    position_or_len_is (λ w. feeds w target) wires (length wires) no_wire (omega arith)
    (λ k lt. ⊎_elim (λ (h : feeds (wire_at wires k) target ≡ true). absurd (none k lt h)) (λ (h : feeds (wire_at wires k) target ≡ false). h) (cases_Bool (feeds (wire_at wires k) target)))
    (λ lt. absurd (omega arith))

port_past : (widths : List ℕ) (wires : List Wire) → AreWires widths wires → (n : ℕ) → length widths + 1 ≤ n → wire_to wires (Port n) ≡ length wires
port_past widths wires are n past =
    no_source wires (Port n) (λ k lt h. let p = (are.each k lt).ports n (any_has (wire_at wires k).ports n h) in let q = p.0 in omega arith)

output_past : (widths : List ℕ) (wires : List Wire) → AreWires widths wires → (n : ℕ) → 17 ≤ n → wire_to wires (Output n) ≡ length wires
output_past widths wires are n past =
    no_source wires (Output n) (λ k lt h. let p = (are.each k lt).outputs n (any_has (wire_at wires k).outputs n h) in omega arith)

-- the queue of a wire on which nothing was sent
abbrev pub fresh_queue : ℕ → WireQueue
fresh_queue sends = record no_queue { older = record no_batch { room = sends }; newer = record no_batch { room = sends } }

-- what `with_room` makes
pub record IsMade (widths : List ℕ) (wires : List Wire) (queues : List WireQueue) (jobs : List PortJob) (ports outputs : List Inbox) : Type 0 where
  pub wired : AreWires widths wires
  pub queues_long : length queues ≡ length wires
  pub each : (k : ℕ) → k < length wires → queue_at queues k ≡ fresh_queue (wire_at wires k).sends
  pub jobs_are : jobs ≡ replicate (length widths + 1) no_job
  pub ports_long : length ports ≡ length widths + 1
  pub port_each : (n : ℕ) (d : Inbox) → n < length ports → get_or ports n d ≡ no_inbox (wire_to wires (Port n))
  pub outputs_long : length outputs ≡ 17
  pub output_each : (n : ℕ) (d : Inbox) → n < length outputs → get_or outputs n d ≡ no_inbox (wire_to wires (Output n))

made_place : (widths : List ℕ) (wires : List Wire) (queues : List WireQueue) (jobs : List PortJob) (ports outputs : List Inbox) → IsMade widths wires queues jobs ports outputs → (target : Arrived) →
    inbox_of (length wires) ports outputs target ≡ no_inbox (wire_to wires target)
made_place widths wires queues jobs ports outputs is (Port n) =
    ⊎_elim
    (λ (h : n < length ports). is.port_each n (no_inbox (length wires)) h)
    (λ (h : length ports ≤ n). let l = is.ports_long in get_or_past ports n (no_inbox (length wires)) h ∙ ap no_inbox (sym (port_past widths wires is.wired n (omega arith))))
    (cases_lt n (length ports))
made_place widths wires queues jobs ports outputs is (Output n) =
    ⊎_elim
    (λ (h : n < length outputs). is.output_each n (no_inbox (length wires)) h)
    (λ (h : length outputs ≤ n). let l = is.outputs_long in get_or_past outputs n (no_inbox (length wires)) h ∙ ap no_inbox (sym (output_past widths wires is.wired n (omega arith))))
    (cases_lt n (length outputs))

made_job : (widths : List ℕ) (wires : List Wire) (queues : List WireQueue) (jobs : List PortJob) (ports outputs : List Inbox) → IsMade widths wires queues jobs ports outputs → (n : ℕ) → closed_at jobs n ≡ no_job
made_job widths wires queues jobs ports outputs is n =
    let m = length widths + 1 in
    ap (λ (js : List PortJob). closed_at js n) is.jobs_are
    ∙ ⊎_elim (λ (h : n < m). get_or-replicate m n no_job no_job h) (λ (h : m ≤ n). get_or_past (replicate m no_job) n no_job (let l = length-replicate m no_job in omega arith)) (cases_lt n m)

-- in each queue there is nothing
made_queue : (P : WireQueue → Type 0) → P no_queue → ((sends : ℕ) → P (fresh_queue sends)) → (widths : List ℕ) (wires : List Wire) (queues : List WireQueue) (jobs : List PortJob) (ports outputs : List Inbox) →
    IsMade widths wires queues jobs ports outputs → (k : ℕ) → P (queue_at queues k)
made_queue P none some widths wires queues jobs ports outputs is k =
    ⊎_elim
    (λ (h : k < length wires). subst P (sym (is.each k h)) (some (wire_at wires k).sends))
    (λ (h : length wires ≤ k). let l = is.queues_long in subst P (sym (get_or_past queues k no_queue (omega arith))) none)
    (cases_lt k (length wires))

pub sound_made : (widths : List ℕ) (wires : List Wire) (queues : List WireQueue) (jobs : List PortJob) (ports outputs : List Inbox) → IsMade widths wires queues jobs ports outputs → IsSound widths wires queues jobs ports outputs
sound_made widths wires queues jobs ports outputs is =
    let l = ap length is.jobs_are ∙ length-replicate (length widths + 1) no_job in
    let job = made_job widths wires queues jobs ports outputs is in
    let place = made_place widths wires queues jobs ports outputs is in
    record {
      wired = is.wired;
      long = is.queues_long;
      jobs_long = l;
      ports_long = is.ports_long;
      outputs_long = is.outputs_long;
      early = λ p. let e = ap (λ (j : PortJob). j.arrival) (job p) in omega arith;
      numbers = λ p. let e = ap (λ (j : PortJob). j.number) (job p) in omega arith;
      feeds = λ t. ap (λ (p : Inbox). p.wire) (place t);
      each = λ k lt.
          let wire = wire_at wires k in
          let c = count_open (fresh_queue wire.sends) refl in
          subst (IsQueue wire _ _) (sym (is.each k lt)) (record {
            rooms = (refl, refl);
            few = (omega arith, omega arith);
            bases = (omega arith, omega arith);
            some = λ (g : false ≡ true). cc;
            counted = omega arith;
            older = λ g. absurd (omega arith);
            newer = λ (g : false ≡ true). cc;
            apart = λ (g : false ≡ true). cc;
          });
      at = λ t.
          let Q : Inbox → Type 0 = λ p. IsCursor (queue_at queues p.wire) p.next in
          subst Q (sym (place t))
          (made_queue (λ x. IsCursor x 0) (let c = count_open no_queue refl in record { least = omega arith; most = omega arith })
          (λ sends. let c = count_open (fresh_queue sends) refl in record { least = omega arith; most = omega arith }) widths wires queues jobs ports outputs is (wire_to wires t));
    }

pub fresh_made : (widths : List ℕ) (wires : List Wire) (queues : List WireQueue) (jobs : List PortJob) (ports outputs : List Inbox) → IsMade widths wires queues jobs ports outputs →
    IsInitial widths wires (state_of widths wires queues jobs ports outputs)
fresh_made widths wires queues jobs ports outputs is =
    let place = made_place widths wires queues jobs ports outputs is in
    record {
      ports = refl;
      wired = refl;
      jobs = made_job widths wires queues jobs ports outputs is;
      placed = λ t. placed_is widths wires queues jobs ports outputs is.queues_long t ∙ ap (λ (p : Inbox). cond p.filled (Some p.values) None) (place t);
      waits = λ t.
          waits_is widths wires queues jobs ports outputs is.queues_long t ∙ ap (λ (p : Inbox). waits_for wires queues p.wire p.next) (place t)
          ∙ none_next wires queues (wire_to wires t) 0 (made_queue (λ x. x.first + count x ≤ 0) (let c = count_open no_queue refl in omega arith)
          (λ sends. let c = count_open (fresh_queue sends) refl in omega arith) widths wires queues jobs ports outputs is (wire_to wires t));
      opens = λ k. open_is widths wires queues jobs ports outputs k
          ∙ made_queue (λ x. opened x ≡ []) (opened_open no_queue refl) (λ sends. opened_open (fresh_queue sends) refl) widths wires queues jobs ports outputs is k;
    }
