-- Heads of targets are added.
use Rattle.std.proofs.Common.{◌≡◌, ℕ, ◌+◌, ◌<◌, ◌≤◌, ◌⊎◌, true, List, [], ◌∷◌, ◌++◌, append-nil, length, get_or, Some, None, sym, ◌∙◌, ap, subst, arith, inl, inr, ⊎_elim}
use Rattle.std.specs.List.{Contains}
use Rattle.std.proofs.lemmas.Bool.{cases_lt}
use Rattle.std.proofs.lemmas.List.{get_or_default, get_or_past}
use Rattle.yt_log.specs.declared.job.Job.{Job}
use Rattle.yt_chan.specs.declared.heads.Head.{Head}
use Rattle.yt_chan.specs.declared.wire.Wire.{Wire}
use Rattle.yt_chan.specs.declared.target.Arrived.{Arrived}
use Rattle.yt_chan.specs.declared.target.Arrived.TheVariants.{Port, Output}
use Rattle.yt_chan.specs.declared.inbox.Inbox.{Inbox}
use Rattle.yt_chan.specs.Inside.Heads.{HasAlso, IsWithin}
use Rattle.yt_chan.specs.Changes.{KeepsWaits, PassesOn}
use Rattle.yt_chan.specs.Inside.Sound.{IsTable, IsThere}
use Rattle.yt_chan.specs.Inside.Next.{Adds, AmongOutputs, AmongOuts, AmongPorts, AreHeads, AreNext, due_of, next_at}
use Rattle.yt_chan.specs.State.{ChannelState, open_at, passed_to, waits_at}
use Rattle.yt_chan.specs.Pending.{Pending}
use Rattle.yt_chan.specs.Wires.{wire_of_out, feeds, no_wire, wire_to, wire_at}
use Rattle.yt_chan.proofs.Closes.{over_other}
use Rattle.yt_chan.proofs.Table.{any_has, source_is}
use Rattle.yt_chan.proofs.Puts.{nat_cases}

abbrev pub head_of : ℕ → Arrived → Head
head_of time target = record { time = time; target = target }

-- nothing is added
pub adds_none : (state : ChannelState) (heads : List Head) (P : Arrived → Type 0) → AreNext state heads → ((t : Arrived) → P t → next_at state t ≡ None) → Adds state heads heads P
adds_none state heads P next none = record { next = next; kept = λ h has. has; added = λ t p time e. let n = none t p in cc }

-- what is added in turn
pub adds_then : (state : ChannelState) (a b c : List Head) (P Q R : Arrived → Type 0) → Adds state a b P → Adds state b c Q → ((t : Arrived) → R t → P t ⊎ Q t) → Adds state a c R
adds_then state a b c P Q R x y which = record {
  next = y.next;
  kept = λ h has. y.kept h (x.kept h has);
  added = λ t r time e. ⊎_elim (λ (p : P t). y.kept (head_of time t) (x.added t p time e)) (λ (q : Q t). y.added t q time e) (which t r);
}

pub adds_as : (state : ChannelState) (a b : List Head) (P R : Arrived → Type 0) → Adds state a b P → ((t : Arrived) → R t → P t) → Adds state a b R
adds_as state a b P R x which = record { next = x.next; kept = x.kept; added = λ t r. x.added t (which t r) }

-- one head is added
pub adds_one : (state : ChannelState) (old new : List Head) (time : ℕ) (target : Arrived) → AreNext state old → next_at state target ≡ Some time → HasAlso old (head_of time target) new →
    Adds state old new (λ t. t ≡ target)
adds_one state old new time target next is also = record {
  next = λ h has. ⊎_elim
      (λ (e : h ≡ head_of time target). subst (λ (x : Head). next_at state x.target ≡ Some x.time) (sym e) is)
      (λ (c : Contains old h). next h c)
      (also.only h has);
  kept = also.kept;
  added = λ t e u at.
      let s : Some u ≡ Some time = sym at ∙ ap (next_at state) e ∙ is in
      let n : u ≡ time = cc in
      let C : Head → Type 0 = λ h. Contains new h in
      subst C (sym (ap (λ (x : ℕ). head_of x t) n ∙ ap (head_of time) e)) also.added;
}

-- two heads of one target are one
pub one_head : (state : ChannelState) (heads : List Head) → AreNext state heads → (time : ℕ) (target : Arrived) → next_at state target ≡ Some time → (other : Head) → Contains heads other → other.target ≡ target →
    other ≡ head_of time target
one_head state heads next time target is other has e =
    let s : Some other.time ≡ Some time = sym (next other has) ∙ ap (next_at state) e ∙ is in
    let n : other.time ≡ time = cc in
    ap (λ (x : ℕ). head_of x other.target) n ∙ ap (head_of time) e

pub more_ports : (numbers : List ℕ) (n : ℕ) (t : Arrived) → AmongPorts numbers (n + 1) t → AmongPorts numbers n t ⊎ (t ≡ Port (get_or numbers n 0))
more_ports numbers n t among =
    let k = among.0 in let b = among.1 in
    ⊎_elim (λ (l : k < n). inl (k, l, among.2)) (λ (g : n ≤ k). let e : k ≡ n = omega arith in inr (among.2 ∙ ap (λ (m : ℕ). Port (get_or numbers m 0)) e)) (cases_lt k n)

pub more_outputs : (numbers : List ℕ) (n : ℕ) (t : Arrived) → AmongOutputs numbers (n + 1) t → AmongOutputs numbers n t ⊎ (t ≡ Output (get_or numbers n 0))
more_outputs numbers n t among =
    let k = among.0 in let b = among.1 in
    ⊎_elim (λ (l : k < n). inl (k, l, among.2)) (λ (g : n ≤ k). let e : k ≡ n = omega arith in inr (among.2 ∙ ap (λ (m : ℕ). Output (get_or numbers m 0)) e)) (cases_lt k n)

-- what a wire feeds is among its ports or its outputs
pub listed : (wire : Wire) (t : Arrived) → feeds wire t ≡ true → AmongPorts wire.ports (length wire.ports) t ⊎ AmongOutputs wire.outputs (length wire.outputs) t
listed wire (Port n) h =
    let c = any_has wire.ports n h in
    inl (c.0, c.1, ap (λ (m : ℕ). Port m) (sym (get_or_default wire.ports c.0 0 n c.1 ∙ c.2)))
listed wire (Output n) h =
    let c = any_has wire.outputs n h in
    inr (c.0, c.1, ap (λ (m : ℕ). Output m) (sym (get_or_default wire.outputs c.0 0 n c.1 ∙ c.2)))

-- a target that has a place is in the limits
pub there_within : (ports outputs : List Inbox) (t : Arrived) → length ports ≤ 65 → length outputs ≤ 17 → IsThere ports outputs t → IsWithin t
there_within ports outputs (Port n) p o there = omega arith
there_within ports outputs (Output n) p o there = omega arith

pub more_outs : (wires : List Wire) (port n : ℕ) (t : Arrived) → AmongOuts wires port (n + 1) t →
    AmongOuts wires port n t ⊎ ((wire_of_out wires port n < length wires) × (feeds (wire_at wires (wire_of_out wires port n)) t ≡ true))
more_outs wires port n t among =
    let k = among.0 in let b = among.2 in
    ⊎_elim
    (λ (l : k < n). inl (k, among.1, l, among.3, among.4))
    (λ (g : n ≤ k).
    let e : k ≡ n = omega arith in
    let P : ℕ → Type 0 = λ m. (wire_of_out wires port m < length wires) × (feeds (wire_at wires (wire_of_out wires port m)) t ≡ true) in
    inr (subst P e (among.3, among.4)))
    (cases_lt k n)

-- what a port feeds is fed by a wire of one of its outs
pub of_port : (wires : List Wire) (table : List ℕ) (port n : ℕ) (t : Arrived) → IsTable wires table → 1 ≤ port → 9 ≤ n → (wire_at wires (wire_to wires t)).port ≡ port → AmongOuts wires port n t
of_port wires table port n t are some long e =
    let k = wire_to wires t in
    let lt : k < length wires = ⊎_elim (λ (l : k < length wires). l)
    (λ (g : length wires ≤ k). let z : (wire_at wires k).port ≡ 0 = ap (λ (w : Wire). w.port) (get_or_past wires k no_wire g) in absurd (omega arith)) (cases_lt k (length wires)) in
    let out = (wire_at wires k).out in
    let o = are.outs k lt in
    let own : wire_of_out wires port out ≡ k = ap (λ (p : ℕ). wire_of_out wires p out) (sym e) ∙ are.own k lt in
    let P : ℕ → Type 0 = λ m. (m < length wires) × (feeds (wire_at wires m) t ≡ true) in
    let q = subst P (sym own) (lt, source_is wires t lt) in
    (out, o.0, omega arith, q.0, q.1)

-- where what waits stays, the heads stay
pub heads_kept : (old new : ChannelState) (heads : List Head) → KeepsWaits old new → AreHeads old heads → AreHeads new heads
heads_kept old new heads keeps are = record {
  next = λ h has. ap due_of (keeps h.target) ∙ are.next h has;
  all = λ t time e. are.all t time (sym (ap due_of (keeps t)) ∙ e);
}

due_append : (xs ys : List Pending) (time : ℕ) → due_of xs ≡ Some time → due_of (xs ++ ys) ≡ Some time
due_append [] ys time e = cc
due_append (m ∷ xs) ys time e = e

-- where a job is closed, each head stays
pub next_passed : (old new : ChannelState) (heads : List Head) (job : Job) (arrival : ℕ) → AreHeads old heads → PassesOn old new job arrival → AreNext new heads
next_passed old new heads job arrival are passes h has = ap due_of (passes h.target) ∙ due_append (waits_at old h.target) (passed_to old h.target job arrival) h.time (are.next h has)

-- and all are there once those that the port feeds were added
pub heads_passed : (old new : ChannelState) (heads all : List Head) (job : Job) (arrival : ℕ) → AreHeads old heads → PassesOn old new job arrival →
    Adds new heads all (λ t. (wire_at old.wires (wire_to old.wires t)).port ≡ job.task) → AreHeads new all
heads_passed old new heads all job arrival are passes adds = record {
  next = adds.next;
  all = λ t time e. ⊎_elim
      (λ (p : (wire_at old.wires (wire_to old.wires t)).port ≡ job.task). adds.added t p time e)
      (λ (h : (wire_at old.wires (wire_to old.wires t)).port ≡ job.task → ⊥).
      let none = over_other (wire_at old.wires (wire_to old.wires t)) (open_at old (wire_to old.wires t)) job arrival h in
      let same : waits_at new t ≡ waits_at old t = passes t ∙ ap (λ (ms : List Pending). waits_at old t ++ ms) none ∙ append-nil (waits_at old t) in
      adds.kept (head_of time t) (are.all t time (sym (ap due_of same) ∙ e)))
      (nat_cases (wire_at old.wires (wire_to old.wires t)).port job.task);
}

-- where nothing waits there is no head
pub heads_none : (state : ChannelState) → ((t : Arrived) → waits_at state t ≡ []) → AreHeads state []
heads_none state none = record {
  next = λ h has. let b = has.1 in absurd (omega arith);
  all = λ t time e. let n : next_at state t ≡ None = ap due_of (none t) in cc;
}
