-- The plan of an executive goes with the interleaved run through each kind of tick, and has at the end the items of serial handling.
use Rattle.std.proofs.Common.{◌≡◌, ◌⊎◌, ℕ, zero, suc, ◌+◌, ◌<◌, false, List, [], ◌∷◌, ◌++◌, length, slice_get, Option, None, Some, sym, ap, subst, ◌∙◌, inl, inr, ⊎_elim, arith}
use Rattle.std.proofs.lemmas.Bool.{cases_eq, false_from_ne_true}
use Rattle.std.proofs.lemmas.List.{map_push}
use Rattle.std.proofs.lemmas.Option.{none-some, same_Some}
use Rattle.yt_graph.specs.Picture.{GraphTree, PortTree}
use Rattle.yt_set.specs.declared.task.Task.{Task}
use Rattle.yt_log.specs.declared.job.Job.{Job}
use Rattle.yt_log.specs.declared.plan.PlanItem.{PlanItem}
use Rattle.yt_log.specs.EdfDdm.{rank, least, waits, choice, IsEdfDdm}
use Rattle.yt_order.specs.Words.{precedes}
use Rattle.yt_log.specs.Plan.{IsLegal}
use Rattle.yt_log.specs.Tasks.{Has}
use Rattle.yt_log.specs.Ticks.{Ticks, done, IsWaiting}
use Rattle.yt_log.proofs.Lemmas.{IsLeast, least_is, waits_true, waits_from}
use Rattle.yt_log.proofs.Lemmas.{rule_is_least}
use Rattle.yt_log.proofs.Lemmas.{has_push}
use Rattle.yt_log.proofs.Lemmas.{one_item}
use Rattle.yt_exec.specs.StandsFor.{item_at, with_cost}
use Rattle.yt_exec.proofs.Lemmas.{changed, changed_arrival, changed_is, changed_job, changed_no, has_from, has_with}
use Rattle.yt_rates.specs.Rates.{period_of}
use Rattle.yt_rates.specs.Tables.{tasks_of}
use Rattle.yt_trace.specs.declared.message.Message.{Message}
use Rattle.yt_serial.specs.Beginnings.{order_of, nth_job}
use Rattle.yt_serial.specs.PortMessages.{PortMessage}
use Rattle.yt_list.specs.Numbered.{numbered}
use Rattle.yt_serial.specs.SerialHandling.{Handled, Serial, items_of, brought, handle_message}
use Rattle.yt_serial.proofs.Lemmas.{placed_at, placed-length, port_there, get_cases, numbered_left, length_push, numbered_within}
use Rattle.yt_interleave.specs.Interleaved.{ActiveJob, RunState, port_at, known_at, whole_of, item_of, passes_of, with_begun, with_tick, with_end, with_idle}
use Rattle.yt_serial.specs.Premises.{CanRun}
use Rattle.yt_interleave.specs.Moves.{MayBegin, after_tick, active_job, Interleaves, AllKnownHandled}
use Rattle.yt_interleave.specs.Timing.{IsPlanOfRun}
use Rattle.yt_interleave.proofs.Begin as begin
use Rattle.yt_log.proofs.Lemmas.{has_append, has_left, has_right}
use Rattle.yt_interleave.proofs.Steps.{after_last, after_other}
use Rattle.yt_interleave.proofs.Timing.{passes_late, known_port}

-- the choice of the rule hangs on a plan's items alone, not on their order
pub choice_same : (tasks : List Task) (plan other : List PlanItem) (log : Ticks) (t : ℕ) → ((z : PlanItem) → Has plan z → Has other z) → ((z : PlanItem) → Has other z → Has plan z)
    → choice tasks plan log t ≡ choice tasks other log t
choice_same tasks plan other log t into back =
    by (least (rank tasks log t) (waits log t) plan) (least_is (rank tasks log t) (waits log t) plan)
  where
    by : (o : Option PlanItem) → IsLeast (rank tasks log t) (waits log t) plan o → choice tasks plan log t ≡ choice tasks other log t
    by None h =
        rule_is_least.none tasks plan log t (λ z has w. h z has (waits_from log t z w))
        ∙ sym (rule_is_least.none tasks other log t (λ z has w. h z (back z has) (waits_from log t z w)))
    by (Some r) h =
        let first : (z : PlanItem) → Has plan z → IsWaiting log t z → precedes (rank tasks log t z) (rank tasks log t r) ≡ false = λ z has w.
        false_from_ne_true (precedes (rank tasks log t z) (rank tasks log t r)) (h.first z has (waits_from log t z w)) in
        let w = waits_true log t r h.passing in
        rule_is_least.some tasks plan log t r (record { has = h.has; waiting = w; first = first })
        ∙ sym (rule_is_least.some tasks other log t r (record { has = into r h.has; waiting = w; first = λ z has u. first z (back z has) u }))

pub rule_same : (tasks : List Task) (plan other : List PlanItem) (log : Ticks) → ((z : PlanItem) → Has plan z → Has other z) → ((z : PlanItem) → Has other z → Has plan z)
    → IsEdfDdm tasks plan log → IsEdfDdm tasks other log
rule_same tasks plan other log into back rule t lt = rule t lt ∙ choice_same tasks plan other log t into back

-- items of other jobs stay
pub with_other : (job : Job) (c : ℕ) (plan : List PlanItem) (z : PlanItem) → (z.job ≡ job → ⊥) → Has plan z → Has (with_cost job c plan) z
with_other job c plan z ne has = subst (λ (x : PlanItem). Has (with_cost job c plan) x) (changed_no job c z ne) (has_from job c plan z has)

-- what is known of each item and of each message
abbrev IsKnownIn : RunState → PlanItem → Type 0
IsKnownIn r z = (m : PortMessage) × (numbered (known_at r z.job.task) z.job.number ≡ Some m) × (m.time ≡ z.arrival)

abbrev IsPlanned : List PlanItem → ℕ → ℕ → Type 0
IsPlanned plan port n = (z : PlanItem) × (Has plan z) × (z.job ≡ nth_job port n)

-- the messages whose time has come are released
pub releases : (s : Serial) (r : RunState) (plan new : List PlanItem) → IsPlanOfRun s r (length r.log) plan
    → ((z : PlanItem) → Has new z → IsKnownIn r z)
    → ((z : PlanItem) → Has new z → z.arrival ≡ length r.log)
    → ((port n : ℕ) (m : PortMessage) → numbered (known_at r port) n ≡ Some m → m.time ≡ length r.log → IsPlanned new port n)
    → IsPlanOfRun s r (suc (length r.log)) (plan ++ new)
releases s r plan new goes known now all = record {
  begun = λ z has. has_left plan new z (goes.begun z has);
  known = λ z has. ⊎_elim (λ (h : Has plan z). goes.known z h) (λ (h : Has new z). known z h) (has_append plan new z has);
  early = λ z has. ⊎_elim (λ (h : Has plan z). let e = goes.early z h in omega arith) (λ (h : Has new z). let e = now z h in omega arith) (has_append plan new z has);
  all = λ port n m there lt. ⊎_elim
      (λ (e : m.time ≡ length r.log). let z = all port n m there e in (z.0, has_right plan new z.0 z.1, z.2))
      (λ (ne : m.time ≡ length r.log → ⊥). let z = goes.all port n m there (omega arith) in (z.0, has_left plan new z.0 z.1, z.2))
      (cases_eq m.time (length r.log));
}

-- a job's messages become known when it ends: none of them is due before its deadline
module _ (g : GraphTree) (b : ActiveJob) (r : RunState) (long : length r.messages ≡ length g.ports) (deadline : length r.log < b.message.time + period_of g (port_at g b.job.task)) where
  abbrev r' : RunState
  r' = after_tick g b r

  longer : length r'.log ≡ suc (length r.log)
  longer =
      ⊎_elim
      (λ (e : done r.log b.job (length r.log) + 1 ≡ (whole_of g b).ticks). ap (λ (x : RunState). length x.log) (after_last g b r e) ∙ length_push r.log (Some b.job))
      (λ (ne : done r.log b.job (length r.log) + 1 ≡ (whole_of g b).ticks → ⊥). ap (λ (x : RunState). length x.log) (after_other g b r ne) ∙ length_push r.log (Some b.job))
      (cases_eq (done r.log b.job (length r.log) + 1) (whole_of g b).ticks)

  -- known messages stay known
  end_known : (port n : ℕ) (m : PortMessage) → numbered (known_at r port) n ≡ Some m → numbered (known_at (with_end g b (with_tick g b r)) port) n ≡ Some m
  end_known port n m there = let p = port_there g.ports r.messages port n m long there in at port p.0 p.1 there
    where
      at : (port : ℕ) (p : PortTree) → numbered g.ports port ≡ Some p → numbered (known_at r port) n ≡ Some m → numbered (known_at (with_end g b (with_tick g b r)) port) n ≡ Some m
      at zero p is there = absurd (none-some p is)
      at (suc k) p is there =
          subst (λ (ms : List PortMessage). numbered ms n ≡ Some m) (sym (placed_at (brought b.job.task (passes_of g b)) g.ports r.messages k p long is))
          (numbered_left (known_at r (suc k)) (brought b.job.task (passes_of g b) p.feed) n m there)

  pub stay_known : (port n : ℕ) (m : PortMessage) → numbered (known_at r port) n ≡ Some m → numbered (known_at r' port) n ≡ Some m
  stay_known port n m there =
      ⊎_elim
      (λ (e : done r.log b.job (length r.log) + 1 ≡ (whole_of g b).ticks).
      subst (λ (x : RunState). numbered (known_at x port) n ≡ Some m) (sym (after_last g b r e)) (end_known port n m there))
      (λ (ne : done r.log b.job (length r.log) + 1 ≡ (whole_of g b).ticks → ⊥).
      subst (λ (x : RunState). numbered (known_at x port) n ≡ Some m) (sym (after_other g b r ne)) there)
      (cases_eq (done r.log b.job (length r.log) + 1) (whole_of g b).ticks)

  -- a message that is new is not due yet
  end_cases : (port n : ℕ) (m : PortMessage) → numbered (known_at (with_end g b (with_tick g b r)) port) n ≡ Some m → (numbered (known_at r port) n ≡ Some m) ⊎ (length r.log < m.time)
  end_cases port zero m there = absurd (none-some m there)
  end_cases port (suc i) m there =
      let p = port_there g.ports (with_end g b (with_tick g b r)).messages port (suc i) m (placed-length (brought b.job.task (passes_of g b)) g.ports r.messages long) there in
      at port p.0 p.1 there
    where
      at : (port : ℕ) (p : PortTree) → numbered g.ports port ≡ Some p → slice_get (known_at (with_end g b (with_tick g b r)) port) i ≡ Some m → (slice_get (known_at r port) i ≡ Some m) ⊎ (length r.log < m.time)
      at zero p is there = absurd (none-some p is)
      at (suc k) p is there =
          ⊎_elim
          (λ (old : slice_get (known_at r (suc k)) i ≡ Some m). inl old)
          (λ (new : (j : ℕ) × (i ≡ length (known_at r (suc k)) + j) × (slice_get (brought b.job.task (passes_of g b) p.feed) j ≡ Some m)).
          let late = passes_late g b p.feed new.0 m new.2 in
          inr (omega arith))
          (get_cases (known_at r (suc k)) (brought b.job.task (passes_of g b) p.feed) i m
          (subst (λ (ms : List PortMessage). slice_get ms i ≡ Some m) (placed_at (brought b.job.task (passes_of g b)) g.ports r.messages k p long is) there))

  pub known_cases : (port n : ℕ) (m : PortMessage) → numbered (known_at r' port) n ≡ Some m → (numbered (known_at r port) n ≡ Some m) ⊎ (length r.log < m.time)
  known_cases port n m there =
      ⊎_elim
      (λ (e : done r.log b.job (length r.log) + 1 ≡ (whole_of g b).ticks).
      end_cases port n m (subst (λ (x : RunState). numbered (known_at x port) n ≡ Some m) (after_last g b r e) there))
      (λ (ne : done r.log b.job (length r.log) + 1 ≡ (whole_of g b).ticks → ⊥).
      inl (subst (λ (x : RunState). numbered (known_at x port) n ≡ Some m) (after_other g b r ne) there))
      (cases_eq (done r.log b.job (length r.log) + 1) (whole_of g b).ticks)

  -- a tick of a job that had begun
  pub ticks : (s : Serial) (plan : List PlanItem) → IsPlanOfRun s r (suc (length r.log)) plan → IsPlanOfRun s r' (length r'.log) plan
  ticks s plan goes = record {
    begun = goes.begun;
    known = λ z has. let k = goes.known z has in (k.0, stay_known z.job.task z.job.number k.0 k.1, k.2);
    early = λ z has. let l = longer in let e = goes.early z has in omega arith;
    all = λ port n m there lt. ⊎_elim
        (λ (old : numbered (known_at r port) n ≡ Some m). let l = longer in goes.all port n m old (omega arith))
        (λ (late : length r.log < m.time). let l = longer in absurd (omega arith))
        (known_cases port n m there);
  }

-- a job begins: its item has its cost from then on
pub begins : (g : GraphTree) (trace : List Message) (can : CanRun g trace) (s : Serial) (r : RunState) (is : Interleaves g trace s r) (job : Job) (m : PortMessage) (may : MayBegin g s r job m)
    (plan : List PlanItem) (due : ℕ) → IsPlanOfRun s r due plan → length r.log < due
    → IsPlanOfRun (handle_message g job m s) (with_begun job m s.vars r) due (with_cost job (whole_of g (active_job job m s)).ticks plan)
begins g trace can s r is job m may plan due goes now =
    let b = active_job job m s in
    let c = (whole_of g b).ticks in
    let new : Handled = record { item = item_of g b; writes = (whole_of g b).writes } in
    let items : items_of (handle_message g job m s) ≡ items_of s ++ item_of g b ∷ [] = map_push (λ (h : Handled). h.item) s.handled new in
    let arrived = may.arrived in
    record {
      begun = λ z has. ⊎_elim
          (λ (old : Has (items_of s) z).
          subst (λ (x : PlanItem). Has (with_cost job c plan) x)
          (changed_no job c z (λ e. begin.fresh g can.well_formed can.rates trace can.keeps (order_of r.log) s r is.stands job m may z old e))
          (has_from job c plan z (goes.begun z old)))
          (λ (e : z ≡ item_of g b).
          let p = goes.all job.task job.number m may.there (omega arith) in
          let k = goes.known p.0 p.1 in
          let same : p.0.job ≡ job = p.2 in
          let at : m ≡ k.0 = same_Some m k.0 (sym may.there ∙ ap (λ (j : Job). numbered (known_at r j.task) j.number) (sym same) ∙ k.1) in
          let arrival : p.0.arrival ≡ m.time = sym (ap (λ (x : PortMessage). x.time) at ∙ k.2) in
          let is : changed job c p.0 ≡ item_of g b = changed_is job c p.0 same ∙ same_item p.0.job job p.0.arrival m.time c same arrival in
          subst (λ (x : PlanItem). Has (with_cost job c plan) x) (is ∙ sym e) (has_from job c plan p.0 p.1))
          (has_push (items_of s) (item_of g b) z (subst (λ (xs : List PlanItem). Has xs z) items has));
      known = λ z has.
          let y = has_with job c plan z has in
          let k = goes.known y.0 y.1 in
          let keeps : ((changed job c y.0).job ≡ y.0.job) × ((changed job c y.0).arrival ≡ y.0.arrival) = (changed_job job c y.0, changed_arrival job c y.0) in
          let same : z.job ≡ y.0.job = ap (λ (x : PlanItem). x.job) y.2 ∙ keeps.0 in
          (k.0, ap (λ (j : Job). numbered (known_at r j.task) j.number) same ∙ k.1, k.2 ∙ sym (ap (λ (x : PlanItem). x.arrival) y.2 ∙ keeps.1));
      early = λ z has.
          let y = has_with job c plan z has in
          let e = goes.early y.0 y.1 in
          let a : z.arrival ≡ y.0.arrival = ap (λ (x : PlanItem). x.arrival) y.2 ∙ changed_arrival job c y.0 in
          omega arith;
      all = λ port n x there lt.
          let z = goes.all port n x there lt in
          (changed job c z.0, has_from job c plan z.0 z.1, changed_job job c z.0 ∙ z.2);
    }
  where
    same_item : (j k : Job) (a d c : ℕ) → j ≡ k → a ≡ d → item_at a j c ≡ item_at d k c
    same_item j k a d c e f = ap (λ (x : Job). item_at a x c) e ∙ ap (λ (x : ℕ). item_at x k c) f

pub idles : (s : Serial) (r : RunState) (plan : List PlanItem) → IsPlanOfRun s r (suc (length r.log)) plan → IsPlanOfRun s (with_idle r) (length (with_idle r).log) plan
idles s r plan goes = record {
  begun = goes.begun;
  known = goes.known;
  early = λ z has. let l = length_push r.log None in let e = goes.early z has in omega arith;
  all = λ port n m there lt. let l = length_push r.log None in goes.all port n m there (omega arith);
}

-- when all is over the plan has the very items of serial handling
pub only_begun : (g : GraphTree) (trace : List Message) (can : CanRun g trace) (s : Serial) (r : RunState) (is : Interleaves g trace s r) → AllKnownHandled g s r
    → (plan : List PlanItem) (due : ℕ) → IsPlanOfRun s r due plan → IsLegal (tasks_of g) plan → (z : PlanItem) → Has plan z → Has (items_of s) z
only_begun g trace can s r is over plan due goes legal z has =
    let k = goes.known z has in
    let p = known_port g trace can s r is z.job.task z.job.number k.0 k.1 in
    let w = numbered_within g.ports z.job.task p.0 p.1 in
    let n = numbered_within (known_at r z.job.task) z.job.number k.0 k.1 in
    let count = over.all z.job.task w.0 w.1 in
    let y = is.stands.all z.job.task z.job.number n.0 (omega arith) in
    let same : y.0 ≡ z = one_item (tasks_of g) plan legal y.0 z (goes.begun y.0 y.1) has y.2 in
    subst (λ (x : PlanItem). Has (items_of s) x) same y.1
