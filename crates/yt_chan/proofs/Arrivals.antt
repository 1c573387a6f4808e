-- How places and jobs change where a target's next message is placed.
use Rattle.std.proofs.Common.{◌≡◌, ℕ, ◌<◌, true, cond, eqb, List, length, get_or, set, sym, ◌∙◌, ap, subst, ⊎_elim, eq-eqb, ne_eqb}
use Rattle.std.proofs.lemmas.Bool.{cond-true, cond-false}
use Rattle.std.proofs.lemmas.List.{get_or_default, get_or-set_same, get_or-set_other}
use Rattle.yt_chan.specs.declared.queue.WireQueue.{WireQueue}
use Rattle.yt_chan.specs.declared.target.Arrived.{Arrived}
use Rattle.yt_chan.specs.declared.target.Arrived.TheVariants.{Port, Output}
use Rattle.yt_chan.specs.declared.inbox.Inbox.{Inbox}
use Rattle.yt_chan.specs.declared.port.PortJob.{PortJob}
use Rattle.yt_chan.specs.Inside.Sound.{CanArrive, StartsHandlingIn, IsPut, IsThere, arrived, closed_at, no_inbox, inbox_of}
use Rattle.yt_chan.specs.State.{no_job}
use Rattle.yt_chan.proofs.Puts.{nat_cases, put_port, put_output}

pub can_port : (queues : List WireQueue) (ports outputs : List Inbox) (n : ℕ) (d : Inbox) (target : Arrived) → target ≡ Port n → IsThere ports outputs target →
    ((wires : ℕ) → CanArrive queues (inbox_of wires ports outputs target)) → CanArrive queues (get_or ports n d)
can_port queues ports outputs n d target e there can =
    subst (CanArrive queues) (get_or_default ports n (no_inbox 0) d (subst (IsThere ports outputs) e there)) (subst (λ (t : Arrived). CanArrive queues (inbox_of 0 ports outputs t)) e (can 0))

pub can_output : (queues : List WireQueue) (ports outputs : List Inbox) (n : ℕ) (d : Inbox) (target : Arrived) → target ≡ Output n → IsThere ports outputs target →
    ((wires : ℕ) → CanArrive queues (inbox_of wires ports outputs target)) → CanArrive queues (get_or outputs n d)
can_output queues ports outputs n d target e there can =
    subst (CanArrive queues) (get_or_default outputs n (no_inbox 0) d (subst (IsThere ports outputs) e there)) (subst (λ (t : Arrived). CanArrive queues (inbox_of 0 ports outputs t)) e (can 0))

pub arrives_port : (queues : List WireQueue) (ports outputs : List Inbox) (n : ℕ) (d new : Inbox) (target : Arrived) → target ≡ Port n → IsThere ports outputs target → new ≡ arrived queues (get_or ports n d) → (wires : ℕ) →
    IsPut (inbox_of wires ports outputs) (inbox_of wires (set ports n new) outputs) target (arrived queues (inbox_of wires ports outputs target))
arrives_port queues ports outputs n d new target e there is wires =
    let lt = subst (IsThere ports outputs) e there in
    let P : Arrived → Type 0 = λ t. IsPut (inbox_of wires ports outputs) (inbox_of wires (set ports n new) outputs) t (arrived queues (inbox_of wires ports outputs t)) in
    let Q : Inbox → Type 0 = λ p. IsPut (inbox_of wires ports outputs) (inbox_of wires (set ports n new) outputs) (Port n) p in
    subst P (sym e) (subst Q (is ∙ ap (arrived queues) (get_or_default ports n d (no_inbox wires) lt)) (put_port wires ports outputs n new lt))

pub arrives_output : (queues : List WireQueue) (ports outputs : List Inbox) (n : ℕ) (d new : Inbox) (target : Arrived) → target ≡ Output n → IsThere ports outputs target → new ≡ arrived queues (get_or outputs n d) → (wires : ℕ) →
    IsPut (inbox_of wires ports outputs) (inbox_of wires ports (set outputs n new)) target (arrived queues (inbox_of wires ports outputs target))
arrives_output queues ports outputs n d new target e there is wires =
    let lt = subst (IsThere ports outputs) e there in
    let P : Arrived → Type 0 = λ t. IsPut (inbox_of wires ports outputs) (inbox_of wires ports (set outputs n new)) t (arrived queues (inbox_of wires ports outputs t)) in
    let Q : Inbox → Type 0 = λ p. IsPut (inbox_of wires ports outputs) (inbox_of wires ports (set outputs n new)) (Output n) p in
    subst P (sym e) (subst Q (is ∙ ap (arrived queues) (get_or_default outputs n d (no_inbox wires) lt)) (put_output wires ports outputs n new lt))

pub handles_port : (jobs : List PortJob) (n : ℕ) (target : Arrived) → target ≡ Port n → n < length jobs → StartsHandlingIn jobs (set jobs n (record (closed_at jobs n) { in_handling = true })) target
handles_port jobs n target e lt = subst (StartsHandlingIn jobs (set jobs n (record (closed_at jobs n) { in_handling = true }))) (sym e) each
  where
    each : (p : ℕ) → closed_at (set jobs n (record (closed_at jobs n) { in_handling = true })) p ≡ cond (eqb p n) (record (closed_at jobs p) { in_handling = true }) (closed_at jobs p)
    each p =
        let new : PortJob = record (closed_at jobs n) { in_handling = true } in
        ⊎_elim
        (λ (q : p ≡ n).
        ap (closed_at (set jobs n new)) q ∙ get_or-set_same jobs n new no_job lt ∙ sym (ap (λ (k : ℕ). record (closed_at jobs k) { in_handling = true }) q)
        ∙ sym (cond-true (eqb p n) (record (closed_at jobs p) { in_handling = true }) (closed_at jobs p) (eq-eqb p n q)))
        (λ (h : p ≡ n → ⊥).
        get_or-set_other jobs n p new no_job h ∙ sym (cond-false (eqb p n) (record (closed_at jobs p) { in_handling = true }) (closed_at jobs p) (ne_eqb p n h)))
        (nat_cases p n)
