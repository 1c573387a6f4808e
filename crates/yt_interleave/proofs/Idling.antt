-- Many idle ticks at once.
use Rattle.std.proofs.Common.{◌≡◌, ℕ, zero, suc, ◌<◌, ◌≤◌, ltb, List, [], ◌∷◌, slice_get, replicate, None, Some, sym, ap, subst, ◌∙◌, ⊎_elim, arith, append-nil, append_assoc, refl}
use Rattle.std.proofs.lemmas.Bool.{cases_lt, cond-true, cond-false, le-ltb, lt-ltb}
use Rattle.std.proofs.lemmas.Option.{none-some}
use Rattle.yt_graph.specs.Picture.{GraphTree}
use Rattle.yt_log.specs.declared.plan.PlanItem.{PlanItem}
use Rattle.yt_log.specs.Ticks.{Ticks}
use Rattle.yt_list.specs.Numbered.{numbered}
use Rattle.yt_serial.specs.Premises.{CanRun}
use Rattle.yt_serial.specs.PortMessages.{PortMessage}
use Rattle.yt_serial.specs.SerialHandling.{Serial, shown}
use Rattle.yt_serial.specs.declared.shown.OutLine.{OutLine}
use Rattle.yt_trace.specs.declared.message.Message.{Message}
use Rattle.yt_interleave.specs.Interleaved.{RunState, known_at, with_idle, with_idles}
use Rattle.yt_interleave.specs.Lines.{come_before, messages_to, HasShown}
use Rattle.yt_interleave.specs.Moves.{Interleaves}
use Rattle.yt_interleave.specs.Timing.{IsPlanOfRun}
use Rattle.yt_interleave.specs.Waits.{NoneComesBefore}
use Rattle.yt_interleave.proofs.Steps.{idling_keeps_serial}
use Rattle.yt_interleave.proofs.WaitLists.{none_between}

-- what has come is the same at both ticks
before_same : (due t : ℕ) (ms : List PortMessage) → due ≤ t → ((k : ℕ) (m : PortMessage) → slice_get ms k ≡ Some m → due ≤ m.time → t ≤ m.time) → come_before t ms ≡ come_before due ms
before_same due t [] le late = refl
before_same due t (m ∷ ms) le late =
    let rest = before_same due t ms le (λ k x h. late (suc k) x h) in
    ⊎_elim
    (λ (lt : m.time < due).
    cond-true (ltb m.time t) (m ∷ come_before t ms) (come_before t ms) (lt-ltb m.time t (omega arith))
    ∙ ap (λ (xs : List PortMessage). m ∷ xs) rest
    ∙ sym (cond-true (ltb m.time due) (m ∷ come_before due ms) (come_before due ms) (lt-ltb m.time due lt)))
    (λ (ge : due ≤ m.time).
    cond-false (ltb m.time t) (m ∷ come_before t ms) (come_before t ms) (le-ltb m.time t (late 0 m refl ge))
    ∙ rest
    ∙ sym (cond-false (ltb m.time due) (m ∷ come_before due ms) (come_before due ms) (le-ltb m.time due ge)))
    (cases_lt m.time due)

-- serial handling stays
pub idles_keep_serial : (g : GraphTree) (trace : List Message) → CanRun g trace → (s : Serial) (count : ℕ) (r : RunState) → Interleaves g trace s r → Interleaves g trace s (with_idles count r)
idles_keep_serial g trace can s zero r is = subst (λ (log : Ticks). Interleaves g trace s (record r { log = log })) (sym (append-nil r.log)) is
idles_keep_serial g trace can s (suc n) r is =
    let rest = idles_keep_serial g trace can s n (with_idle r) (idling_keeps_serial g trace can s r is) in
    subst (λ (log : Ticks). Interleaves g trace s (record r { log = log })) (append_assoc r.log (None ∷ []) (replicate n None)) rest

module _ (r : RunState) (due t : ℕ) (le : due ≤ t) (none : NoneComesBefore r due t) where
  -- a known message of a port is due before both ticks or before none
  port_between : (port n : ℕ) (m : PortMessage) → numbered (known_at r port) n ≡ Some m → due ≤ m.time → t ≤ m.time
  port_between port zero m there ge = absurd (none-some m there)
  port_between port (suc k) m there ge = none_between due t (known_at r port) (none.ports port) k m there ge

  -- the plan stays
  pub idles_plan : (s : Serial) (count : ℕ) (plan : List PlanItem) → IsPlanOfRun s r due plan → IsPlanOfRun s (with_idles count r) t plan
  idles_plan s count plan goes = record {
    begun = goes.begun;
    known = goes.known;
    early = λ z has. let e = goes.early z has in omega arith;
    all = λ port n m there lt. ⊎_elim
        (λ (before : m.time < due). goes.all port n m there before)
        (λ (ge : due ≤ m.time). absurd (let late = port_between port n m there ge in omega arith))
        (cases_lt m.time due);
  }

  -- nothing is shown
  pub idles_shown : (count : ℕ) (lines : List OutLine) → HasShown r due lines → HasShown (with_idles count r) t lines
  idles_shown count lines has = record {
    order = has.order;
    each = λ n. has.each n ∙ sym (ap (shown n) (before_same due t (messages_to r.outputs n) le (none_between due t (messages_to r.outputs n) (none.outputs n))));
  }
