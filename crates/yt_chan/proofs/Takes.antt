-- How the heads, and what they stand for, change where the first of them is taken.
use Rattle.std.proofs.Common.{◌≡◌, ℕ, ◌<◌, ◌≤◌, ◌⊎◌, true, eqb, List, [], length, Some, refl, sym, ◌∙◌, ap, subst, arith, inl, inr, ⊎_elim}
use Rattle.std.specs.List.{Contains}
use Rattle.std.proofs.lemmas.Bool.{cases_lt, both_ways, cond_both}
use Rattle.std.proofs.lemmas.List.{get_or_default}
use Rattle.yt_chan.specs.declared.heads.Head.{Head}
use Rattle.yt_chan.specs.declared.wire.Wire.{Wire}
use Rattle.yt_chan.specs.declared.queue.WireQueue.{WireQueue}
use Rattle.yt_chan.specs.declared.target.Arrived.{Arrived}
use Rattle.yt_chan.specs.declared.target.Arrived.TheVariants.{Port, Output}
use Rattle.yt_chan.specs.declared.inbox.Inbox.{Inbox}
use Rattle.yt_chan.specs.declared.port.PortJob.{PortJob}
use Rattle.yt_chan.specs.Changes.{Delivers, StartsHandlingAt, IsLeastTime}
use Rattle.yt_order.specs.Falling.{HasOneMore}
use Rattle.yt_chan.specs.Inside.Heads.{IsFirst, comes_before}
use Rattle.yt_chan.specs.Inside.Queues.{state_of}
use Rattle.yt_chan.specs.Inside.Next.{Adds, AreHeads, AreNext, due_of}
use Rattle.yt_chan.specs.Inside.Sound.{CanArrive, StartsHandlingIn, IsPut, IsSound, IsThere, arrived, closed_at, no_inbox, inbox_of}
use Rattle.yt_chan.specs.State.{ChannelState, IsArriving, IsNext, NoneIsLate, Waits}
use Rattle.yt_chan.specs.Pending.{Pending}
use Rattle.yt_chan.proofs.Delivers.{arrived_at, can_arrive, delivers, due_head, head_first, in_ports, next_is_due}
use Rattle.yt_chan.proofs.HeadOrder.{before_is}
use Rattle.yt_chan.proofs.HeadChanges.{head_of, one_head}
use Rattle.yt_chan.proofs.Puts.{SameJobs, sound_put, target_cases}
use Rattle.yt_chan.proofs.NextTimes.{next_time}
use Rattle.yt_chan.proofs.ByTarget.{due_is}

-- a target for which a message waits has a place
pub is_there : (wires : List Wire) (queues : List WireQueue) (ports outputs : List Inbox) (target : Arrived) (time : ℕ) → length queues ≡ length wires →
    next_time wires queues (inbox_of (length wires) ports outputs target) ≡ Some time → IsThere ports outputs target
is_there wires queues ports outputs (Port n) time long e = in_ports wires queues ports n time long e
is_there wires queues ports outputs (Output n) time long e = in_ports wires queues outputs n time long e

same_handled : (jobs new : List PortJob) (target : Arrived) → length new ≡ length jobs → StartsHandlingIn jobs new target → SameJobs jobs new
same_handled jobs new (Port n) long handles =
    let J : (p : ℕ) → PortJob = λ p. record (closed_at jobs p) { in_handling = true } in
    record {
      long = long;
      number = λ p. ap (λ (j : PortJob). j.number) (handles p) ∙ cond_both (eqb p n) (J p) (closed_at jobs p) (λ (j : PortJob). j.number ≡ (closed_at jobs p).number) (λ _. refl) (λ _. refl);
      arrival = λ p. ap (λ (j : PortJob). j.arrival) (handles p) ∙ cond_both (eqb p n) (J p) (closed_at jobs p) (λ (j : PortJob). j.arrival ≡ (closed_at jobs p).arrival) (λ _. refl) (λ _. refl);
    }
same_handled jobs new (Output n) long handles = record { long = long; number = λ p. ap (λ (j : PortJob). j.number) (handles p); arrival = λ p. ap (λ (j : PortJob). j.arrival) (handles p) }

handles_at : (widths : List ℕ) (wires : List Wire) (queues : List WireQueue) (jobs new : List PortJob) (ports outputs ports' outputs' : List Inbox) (target : Arrived) → StartsHandlingIn jobs new target →
    StartsHandlingAt (state_of widths wires queues jobs ports outputs) (state_of widths wires queues new ports' outputs') target
handles_at widths wires queues jobs new ports outputs ports' outputs' (Port n) handles = handles
handles_at widths wires queues jobs new ports outputs ports' outputs' (Output n) handles = handles

-- what the first head says, where it is of this tick
pub record Comes (widths : List ℕ) (wires : List Wire) (queues : List WireQueue) (jobs : List PortJob) (ports outputs : List Inbox) (now : ℕ) (target : Arrived) : Type 0 where
  pub due : next_time wires queues (inbox_of (length wires) ports outputs target) ≡ Some now
  pub there : IsThere ports outputs target
  pub can : CanArrive queues (inbox_of (length wires) ports outputs target)

pub comes : (widths : List ℕ) (wires : List Wire) (queues : List WireQueue) (jobs : List PortJob) (ports outputs : List Inbox) (heads : List Head) (head : Head) (now : ℕ) → IsSound widths wires queues jobs ports outputs →
    AreHeads (state_of widths wires queues jobs ports outputs) heads → IsFirst heads head → head.time ≡ now → Comes widths wires queues jobs ports outputs now head.target
comes widths wires queues jobs ports outputs heads head now is are first time =
    let due = sym (due_is widths wires queues jobs ports outputs is.long head.target) ∙ are.next head first.has ∙ ap Some time in
    record {
      due = due;
      there = is_there wires queues ports outputs head.target now is.long due;
      can = can_arrive widths wires queues jobs ports outputs is head.target (inbox_of (length wires) ports outputs head.target) now refl due;
    }

-- the first head is of the target that comes next
pub is_next : (widths : List ℕ) (wires : List Wire) (queues : List WireQueue) (jobs : List PortJob) (ports outputs : List Inbox) (heads : List Head) (head : Head) (now : ℕ) → IsSound widths wires queues jobs ports outputs →
    AreHeads (state_of widths wires queues jobs ports outputs) heads → NoneIsLate (state_of widths wires queues jobs ports outputs) now → IsFirst heads head → head.time ≡ now →
    IsNext (state_of widths wires queues jobs ports outputs) now head.target
is_next widths wires queues jobs ports outputs heads head now is are none first time = record {
  arrives = next_is_due widths wires queues jobs ports outputs is.long now head.target (comes widths wires queues jobs ports outputs heads head now is are first time).due;
  first = λ other before due.
      let e = due_is widths wires queues jobs ports outputs is.long other ∙ due_head widths wires queues jobs ports outputs is now none other due in
      let in' = are.all other now e in
      both_ways (comes_before (head_of now other) head) (first.first (head_of now other) in') (before_is (head_of now other) head (inr (sym time, before)));
}

-- what stays true, and what has changed, once the message is placed
pub record IsTaken (widths : List ℕ) (wires : List Wire) (queues : List WireQueue) (jobs jobs' : List PortJob) (ports outputs ports' outputs' : List Inbox) (now : ℕ) (target : Arrived) : Type 0 where
  pub sound : IsSound widths wires queues jobs' ports' outputs'
  pub delivers : Delivers (state_of widths wires queues jobs ports outputs) (state_of widths wires queues jobs' ports' outputs') now target
  pub there : IsThere ports' outputs' target

same_there : (ports outputs ports' outputs' : List Inbox) (target : Arrived) → length ports' ≡ length ports → length outputs' ≡ length outputs → IsThere ports outputs target → IsThere ports' outputs' target
same_there ports outputs ports' outputs' (Port n) e f there = omega arith
same_there ports outputs ports' outputs' (Output n) e f there = omega arith

pub taken : (widths : List ℕ) (wires : List Wire) (queues : List WireQueue) (jobs jobs' : List PortJob) (ports outputs ports' outputs' : List Inbox) (heads : List Head) (head : Head) (now : ℕ) →
    IsSound widths wires queues jobs ports outputs → AreHeads (state_of widths wires queues jobs ports outputs) heads → NoneIsLate (state_of widths wires queues jobs ports outputs) now →
    IsFirst heads head → head.time ≡ now → length jobs' ≡ length jobs → length ports' ≡ length ports → length outputs' ≡ length outputs →
    IsPut (inbox_of (length wires) ports outputs) (inbox_of (length wires) ports' outputs') head.target (arrived queues (inbox_of (length wires) ports outputs head.target)) → StartsHandlingIn jobs jobs' head.target →
    IsTaken widths wires queues jobs jobs' ports outputs ports' outputs' now head.target
taken widths wires queues jobs jobs' ports outputs ports' outputs' heads head now is are none first time long_jobs long_ports long_outputs put handles =
    let target = head.target in
    let place = inbox_of (length wires) ports outputs target in
    let c = comes widths wires queues jobs ports outputs heads head now is are first time in
    record {
      sound = sound_put widths wires queues jobs ports outputs jobs' ports' outputs' target (arrived queues place) is (same_handled jobs jobs' target long_jobs handles) long_ports long_outputs put refl
          (arrived_at wires queues place now c.due c.can.at);
      delivers = delivers widths wires queues jobs jobs' ports outputs ports' outputs' target place (arrived queues place) now is put refl refl c.due
          (is_next widths wires queues jobs ports outputs heads head now is are none first time) (handles_at widths wires queues jobs jobs' ports outputs ports' outputs' target handles);
      there = same_there ports outputs ports' outputs' target long_ports long_outputs c.there;
    }

-- a head that is left is of another target
other_target : (state : ChannelState) (heads left : List Head) (head other : Head) → AreHeads state heads → HasOneMore left head heads → Contains left other → other.target ≡ head.target → ⊥
other_target state heads left head other are more has e =
    let n = one_head state heads are.next head.time head.target (are.next head more.added) other (more.kept other has) e in
    let C : Head → Type 0 = λ h. Contains left h in
    more.fresh (subst C n has)

pub next_left : (old new : ChannelState) (heads left : List Head) (head : Head) (now : ℕ) → AreHeads old heads → HasOneMore left head heads → Delivers old new now head.target → AreNext new left
next_left old new heads left head now are more delivers other has =
    ap due_of (delivers.others other.target (λ e. other_target old heads left head other are more has e)) ∙ are.next other (more.kept other has)

pub heads_left : (old new : ChannelState) (heads left all : List Head) (head : Head) (now : ℕ) → AreHeads old heads → HasOneMore left head heads → Delivers old new now head.target → Adds new left all (λ t. t ≡ head.target) →
    AreHeads new all
heads_left old new heads left all head now are more delivers adds = record {
  next = adds.next;
  all = λ t time e. ⊎_elim
      (λ (q : t ≡ head.target). adds.added t q time e)
      (λ (n : t ≡ head.target → ⊥).
      let was = are.all t time (sym (ap due_of (delivers.others t n)) ∙ e) in
      adds.kept (head_of time t) (⊎_elim (λ (z : head_of time t ≡ head). absurd (n (ap (λ (h : Head). h.target) z))) (λ (z : Contains left (head_of time t)). z) (more.only (head_of time t) was)))
      (target_cases t head.target);
}

-- where there is no head, or the first is of another tick, no message is due
pub none_due : (widths : List ℕ) (wires : List Wire) (queues : List WireQueue) (jobs : List PortJob) (ports outputs : List Inbox) (heads : List Head) (now : ℕ) → IsSound widths wires queues jobs ports outputs →
    AreHeads (state_of widths wires queues jobs ports outputs) heads → NoneIsLate (state_of widths wires queues jobs ports outputs) now →
    (heads ≡ []) ⊎ ((first : Head) × IsFirst heads first × (first.time ≡ now → ⊥)) → (target : Arrived) → IsArriving (state_of widths wires queues jobs ports outputs) now target → ⊥
none_due widths wires queues jobs ports outputs heads now is are none either target due =
    let view = state_of widths wires queues jobs ports outputs in
    let e = due_is widths wires queues jobs ports outputs is.long target ∙ due_head widths wires queues jobs ports outputs is now none target due in
    let in' = are.all target now e in
    ⊎_elim
    (λ (z : heads ≡ []). let l = ap length z in let b = in'.1 in omega arith)
    (λ (x : (first : Head) × IsFirst heads first × (first.time ≡ now → ⊥)).
    let first = x.0 in
    let n = next_is_due widths wires queues jobs ports outputs is.long first.time first.target (sym (due_is widths wires queues jobs ports outputs is.long first.target) ∙ are.next first x.1.has) in
    let f = none n.0 (first.target, n.1) in
    let g = n.2 in
    ⊎_elim
    (λ (l : now < first.time). both_ways (comes_before (head_of now target) first) (x.1.first (head_of now target) in') (before_is (head_of now target) first (inl l)))
    (λ (l : first.time ≤ now). x.2 (omega arith))
    (cases_lt now first.time))
    either

-- the tick of the first head is the least
pub least_first : (widths : List ℕ) (wires : List Wire) (queues : List WireQueue) (jobs : List PortJob) (ports outputs : List Inbox) (heads : List Head) (head : Head) → IsSound widths wires queues jobs ports outputs →
    AreHeads (state_of widths wires queues jobs ports outputs) heads → IsFirst heads head → IsLeastTime (state_of widths wires queues jobs ports outputs) head.time
least_first widths wires queues jobs ports outputs heads head is are first =
    let n = next_is_due widths wires queues jobs ports outputs is.long head.time head.target (sym (due_is widths wires queues jobs ports outputs is.long head.target) ∙ are.next head first.has) in
    record {
      message = n.0;
      waits = (head.target, n.1);
      due = n.2;
      least = λ other w.
          let h = head_first widths wires queues jobs ports outputs is w.0 other w.1 in
          let in' = are.all w.0 h.0 (due_is widths wires queues jobs ports outputs is.long w.0 ∙ h.1) in
          let g = h.2 in
          ⊎_elim
          (λ (l : h.0 < head.time). absurd (both_ways (comes_before (head_of h.0 w.0) head) (first.first (head_of h.0 w.0) in') (before_is (head_of h.0 w.0) head (inl l))))
          (λ (l : head.time ≤ h.0). omega arith)
          (cases_lt h.0 head.time);
    }

pub none_waits : (widths : List ℕ) (wires : List Wire) (queues : List WireQueue) (jobs : List PortJob) (ports outputs : List Inbox) (heads : List Head) → IsSound widths wires queues jobs ports outputs →
    AreHeads (state_of widths wires queues jobs ports outputs) heads → heads ≡ [] → (m : Pending) → Waits (state_of widths wires queues jobs ports outputs) m → ⊥
none_waits widths wires queues jobs ports outputs heads is are z m w =
    let h = head_first widths wires queues jobs ports outputs is w.0 m w.1 in
    let in' = are.all w.0 h.0 (due_is widths wires queues jobs ports outputs is.long w.0 ∙ h.1) in
    let l = ap length z in let b = in'.1 in
    omega arith

-- where a target has a place, what stands for a missing one says nothing
pub place_any : (a b : ℕ) (ports outputs : List Inbox) (target : Arrived) → IsThere ports outputs target → inbox_of a ports outputs target ≡ inbox_of b ports outputs target
place_any a b ports outputs (Port n) there = get_or_default ports n (no_inbox a) (no_inbox b) there
place_any a b ports outputs (Output n) there = get_or_default outputs n (no_inbox a) (no_inbox b) there

pub can_any : (wires : ℕ) (queues ls : List WireQueue) (ports ps outputs os : List Inbox) (target : Arrived) → ls ≡ queues → ps ≡ ports → os ≡ outputs → IsThere ports outputs target →
    CanArrive queues (inbox_of wires ports outputs target) → (w : ℕ) → CanArrive ls (inbox_of w ps os target)
can_any wires queues ls ports ps outputs os target el ep eo there can w =
    let Q : List WireQueue → List Inbox → List Inbox → Type 0 = λ l p o. CanArrive l (inbox_of w p o target) in
    let q : Q queues ports outputs = subst (CanArrive queues) (place_any wires w ports outputs target there) can in
    subst (λ (l : List WireQueue). Q l ps os) (sym el) (subst (λ (p : List Inbox). Q queues p os) (sym ep) (subst (Q queues ports) (sym eo) q))

-- a target's next message was placed
pub record IsPlaced (queues : List WireQueue) (jobs jobs' : List PortJob) (ports outputs ports' outputs' : List Inbox) (target : Arrived) : Type 0 where
  pub jobs_long : length jobs' ≡ length jobs
  pub ports_long : length ports' ≡ length ports
  pub outputs_long : length outputs' ≡ length outputs
  pub put : (wires : ℕ) → IsPut (inbox_of wires ports outputs) (inbox_of wires ports' outputs') target (arrived queues (inbox_of wires ports outputs target))
  pub handles : StartsHandlingIn jobs jobs' target

pub taken_by : (widths : List ℕ) (wires : List Wire) (queues ls : List WireQueue) (jobs js jobs' : List PortJob) (ports ps outputs os ports' outputs' : List Inbox) (heads : List Head) (head : Head) (now : ℕ) →
    IsSound widths wires queues jobs ports outputs → AreHeads (state_of widths wires queues jobs ports outputs) heads → NoneIsLate (state_of widths wires queues jobs ports outputs) now →
    IsFirst heads head → head.time ≡ now → ls ≡ queues → js ≡ jobs → ps ≡ ports → os ≡ outputs → IsPlaced ls js jobs' ps os ports' outputs' head.target →
    IsTaken widths wires queues jobs jobs' ports outputs ports' outputs' now head.target
taken_by widths wires queues ls jobs js jobs' ports ps outputs os ports' outputs' heads head now is are none first time el ej ep eo step =
    let F : List WireQueue → List PortJob → List Inbox → List Inbox → Type 0 = λ l j p o. IsPlaced l j jobs' p o ports' outputs' head.target in
    let s : F queues jobs ports outputs = subst (F queues jobs ports) eo (subst (λ (p : List Inbox). F queues jobs p os) ep (subst (λ (j : List PortJob). F queues j ps os) ej (subst (λ (l : List WireQueue). F l js ps os) el step))) in
    taken widths wires queues jobs jobs' ports outputs ports' outputs' heads head now is are none first time s.jobs_long s.ports_long s.outputs_long (s.put (length wires)) s.handles

-- what holds of some parts holds of equal ones
pub with_parts : (K : List PortJob → List Inbox → List Inbox → Type 0) (j j' : List PortJob) (p p' o o' : List Inbox) → j' ≡ j → p' ≡ p → o' ≡ o → K j p o → K j' p' o'
with_parts K j j' p p' o o' ej ep eo k = subst (λ (x : List PortJob). K x p' o') (sym ej) (subst (λ (x : List Inbox). K j x o') (sym ep) (subst (K j p) (sym eo) k))
