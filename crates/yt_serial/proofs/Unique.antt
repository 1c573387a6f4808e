-- Two promised runs of one graph on one trace are one.
use Rattle.std.proofs.Common.{◌≡◌, ℕ, zero, suc, ◌<◌, ◌≤◌, false, List, [], ◌∷◌, length, Option, None, Some, refl, sym, ap, ap₂, subst, ◌∙◌, ⊎_elim, arith}
use Rattle.std.proofs.lemmas.Bool.{cases_eq, cases_lt, false_from_ne_true}
use Rattle.std.proofs.lemmas.List.{length-map, ext_get_or}
use Rattle.std.proofs.lemmas.Option.{same_Some, option_and_then_some}
use Rattle.yt_graph.specs.Picture.{GraphTree}
use Rattle.yt_set.specs.declared.task.Task.{Task}
use Rattle.yt_log.specs.declared.job.Job.{Job}
use Rattle.yt_log.specs.declared.plan.PlanItem.{PlanItem}
use Rattle.yt_log.specs.EdfDdm.{rank, least, waits, choice, IsEdfDdm}
use Rattle.yt_order.specs.Words.{precedes}
use Rattle.yt_order.specs.Sorting.{sort_by}
use Rattle.yt_log.specs.Plan.{its_task, deadline_of, IsLegal}
use Rattle.yt_log.specs.Tasks.{Has}
use Rattle.yt_log.specs.Ticks.{Ticks, tick, done, IsWaiting, KeepsDeadlines}
use Rattle.yt_log.proofs.Lemmas.{jobs_none}
use Rattle.yt_log.proofs.Lemmas.{IsLeast, least_is, waits_true, waits_from}
use Rattle.yt_log.proofs.Lemmas.{deadline_is}
use Rattle.yt_log.proofs.Lemmas.{rule_is_least}
use Rattle.yt_log.proofs.Lemmas.{choice_same, Agree, done_same}
use Rattle.yt_log.proofs.Lemmas.{one_item, good_item}
use Rattle.yt_log.proofs.Lemmas.{done_grows}
use Rattle.yt_rates.specs.Rates.{period_of}
use Rattle.yt_rates.specs.Tables.{tasks_of}
use Rattle.yt_rates.specs.Tables as tables
use Rattle.yt_serial.specs.declared.shown.OutLine.{OutLine}
use Rattle.yt_trace.specs.declared.message.Message.{Message}
use Rattle.yt_serial.specs.Beginnings.{begun_below, nth_job, order_of}
use Rattle.yt_serial.specs.Premises.{CanRun}
use Rattle.yt_trace.specs.Traces.{PortMessage}
use Rattle.yt_list.specs.Numbered.{numbered}
use Rattle.yt_serial.specs.SerialHandling.{Serial, messages_at, items_of, start, serial_step, serial_run, plan_of_log}
use Rattle.yt_serial.specs.Told.{line_before, latest, AllHandled, IsPromisedRun}
use Rattle.yt_serial.proofs.Done.{busy_until_le}
use Rattle.yt_serial.proofs.Orders.{done_begun}
use Rattle.yt_serial.proofs.Prefix.{begun_same}
use Rattle.yt_serial.proofs.SerialInvariant.{Holds, port_task}
use Rattle.yt_serial.proofs.SerialRuns.{serial_holds, stepped}
use Rattle.yt_serial.proofs.SerialStates.{message_there, port_there}
use Rattle.yt_serial.proofs.SerialSteps.{AtTick, IsBrought, at_tick, from_start, in_items, in_plan}
use Rattle.yt_serial.proofs.Spread.{numbered_within}
use Rattle.yt_log.proofs.Lemmas.{rank_like}

module _ (g : GraphTree) (trace : List Message) (can : CanRun g trace) where
  -- an item of the same job and arrival that waits
  record IsTwin (plan : List PlanItem) (log : Ticks) (t : ℕ) (z : PlanItem) : Type 0 where
    twin : PlanItem
    has : Has plan twin
    job : twin.job ≡ z.job
    arrival : twin.arrival ≡ z.arrival
    waiting : IsWaiting log t twin

  -- a log of the rule, for a plan that has what serial handling along the log has so far
  pub record IsRuleRun (log : Ticks) (whole : Serial) (plan : List PlanItem) : Type 0 where
    pub along : serial_run g (order_of log) (start g trace) ≡ Some whole
    pub legal : IsLegal (tasks_of g) plan
    pub rule : IsEdfDdm (tasks_of g) plan log
    pub deadlines : KeepsDeadlines (tasks_of g) plan log (length log)
    pub begun : (z : PlanItem) → Has (items_of whole) z → Has plan z
    pub known : (z : PlanItem) → Has plan z → (m : PortMessage) × (numbered (messages_at whole z.job.task) z.job.number ≡ Some m) × (m.time ≡ z.arrival)
    pub all : (port n : ℕ) (m : PortMessage) → numbered (messages_at whole port) n ≡ Some m → m.time < length log → (z : PlanItem) × (Has plan z) × (z.job ≡ nth_job port n)

  pub promised_is : (log : Ticks) (lines : List OutLine) (p : IsPromisedRun g trace log lines) → IsRuleRun log p.tells.serial (plan_of_log g trace log)
  promised_is log lines p =
      let whole = p.tells.serial in
      let along = p.tells.along in
      let holds = serial_holds g can.well_formed can.rates trace can.keeps (order_of log) whole along in
      record {
        along = along;
        legal = p.legal;
        rule = p.edf_ddm;
        deadlines = p.deadlines (length log);
        begun = in_plan g trace can log whole along;
        known = λ z has. let of = holds.items z (in_items g trace can log whole along z has) in (of.message, of.there, of.arrival);
        all = λ port n m there lt.
            let k = numbered_within (messages_at whole port) n m there in
            let q = port_there g.ports whole.messages port n m holds.long there in
            let range = port_task g port q.0 q.1 in
            let ports = length-map g.ports (tables.task_of g) in
            let all = p.tells.all port range.0 (omega (arith, range.1)) in
            let numbers = (from_start g trace can (order_of log) whole along).numbers (λ port k some le. absurd (let e = jobs_none port in omega arith)) in
            let y = numbers port n k.0 (omega (arith, k.1)) in
            (y.0, in_plan g trace can log whole along y.0 y.1, y.2);
      }

  module _ (a b : Ticks) (whole_a whole_b : Serial) (plan_a plan_b : List PlanItem) (ra : IsRuleRun a whole_a plan_a) (rb : IsRuleRun b whole_b plan_b)
      (t : ℕ) (ta : t < length a) (tb : t < length b) (agree : Agree a b t) where
    xa : AtTick g trace can a whole_a t
    xa = at_tick g trace can a whole_a ra.along t (omega arith)

    xb : AtTick g trace can b whole_b t
    xb = at_tick g trace can b whole_b rb.along t (omega arith)

    same_now : xa.now ≡ xb.now
    same_now =
        same_Some xa.now xb.now
        (sym xa.along ∙ ap (λ (o : List Job). serial_run g o (start g trace)) (begun_same a b t agree) ∙ xb.along)

    -- an item whose job has begun is one of both
    begun_twin : (z : PlanItem) → Has plan_a z → IsWaiting a t z → 0 < done a z.job t → IsTwin plan_b b t z
    begun_twin z has waits begun =
        let first = from_start g trace can (begun_below a t) xa.now xa.along in
        let y = first.each z.job (done_begun a t z.job begun) in
        let same : y.0 ≡ z = one_item (tasks_of g) plan_a ra.legal y.0 z (ra.begun y.0 (xa.on.items y.0 y.1)) has y.2 in
        let now : Has (items_of xa.now) z = subst (λ (x : PlanItem). Has (items_of xa.now) x) same y.1 in
        let there : Has (items_of whole_b) z = xb.on.items z (subst (λ (s : Serial). Has (items_of s) z) same_now now) in
        let d = done_same a b z.job t agree in
        let u = waits.unfinished in
        record { twin = z; has = rb.begun z there; job = refl; arrival = refl; waiting = record { arrived = waits.arrived; unfinished = omega arith } }

    -- what serial handling has at a port by a tick is there in both
    message_twin : (port n : ℕ) (m : PortMessage) → numbered (messages_at whole_a port) n ≡ Some m → m.time ≤ t → numbered (messages_at whole_b port) n ≡ Some m
    message_twin port n m there le =
        ⊎_elim
        (λ (old : numbered (messages_at xa.now port) n ≡ Some m).
        xb.on.stays port n m (subst (λ (s : Serial). numbered (messages_at s port) n ≡ Some m) same_now old))
        (λ (new : IsBrought g xa.later whole_a m).
        let y = new.item in
        let has = ra.begun y new.has in
        let task = port_task g y.job.task new.port new.there in
        let period : (its_task (tasks_of g) y).period ≡ period_of g new.port = ap (λ (k : Task). k.period) task.2 in
        let due = deadline_is (tasks_of g) y in
        let late = new.late in
        let met = ra.deadlines y has (omega arith) in
        let cost = (good_item (tasks_of g) plan_a ra.legal y has).some in
        let none = xa.none y.job new.by in
        let grows = done_grows a y.job (deadline_of (tasks_of g) y) t (omega arith) in
        absurd (omega arith))
        (xa.on.brought port n m there)

    fresh_twin : (z : PlanItem) → Has plan_a z → IsWaiting a t z → done a z.job t ≡ 0 → IsTwin plan_b b t z
    fresh_twin z has waits none =
        let of = ra.known z has in
        let m = of.0 in
        let time = of.2 in
        let come = waits.arrived in
        let there = message_twin z.job.task z.job.number m of.1 (omega arith) in
        let y = rb.all z.job.task z.job.number m there (omega arith) in
        let ofb = rb.known y.0 y.1 in
        let same : m ≡ ofb.0 = same_Some m ofb.0 (sym there ∙ sym (ap (λ (j : Job). numbered (messages_at whole_b j.task) j.number) y.2) ∙ ofb.1) in
        let arrival : y.0.arrival ≡ z.arrival = sym ofb.2 ∙ ap (λ (x : PortMessage). x.time) (sym same) ∙ of.2 in
        let cost = (good_item (tasks_of g) plan_b rb.legal y.0 y.1).some in
        let d : done b y.0.job t ≡ done a z.job t = ap (λ (j : Job). done b j t) y.2 ∙ sym (done_same a b z.job t agree) in
        record { twin = y.0; has = y.1; job = y.2; arrival = arrival; waiting = record { arrived = omega arith; unfinished = omega arith } }

    twin_of : (z : PlanItem) → Has plan_a z → IsWaiting a t z → IsTwin plan_b b t z
    twin_of z has waits =
        ⊎_elim
        (λ (e : done a z.job t ≡ 0). fresh_twin z has waits e)
        (λ (ne : done a z.job t ≡ 0 → ⊥). begun_twin z has waits (omega arith))
        (cases_eq (done a z.job t) 0)

waits_in : (a b : Ticks) (t : ℕ) (z : PlanItem) → Agree a b t → IsWaiting a t z → IsWaiting b t z
waits_in a b t z agree w = let d = done_same a b z.job t agree in let u = w.unfinished in record { arrived = w.arrived; unfinished = omega arith }

flip : (a b : Ticks) (t : ℕ) → Agree a b t → Agree b a t
flip a b t agree u lt = sym (agree u lt)

-- logs of one length with the same ticks
same_log : (a b : Ticks) → length a ≡ length b → Agree a b (length a) → a ≡ b
unfolding tick
same_log a b e agree = ext_get_or None a b e (λ i h. agree i h)

-- where all messages are handled, serial handling goes no further
pub no_more : (g : GraphTree) (trace : List Message) (can : CanRun g trace) (s : Serial) → Holds g s → AllHandled g s → (later : List Job) (t : Serial) → serial_run g later s ≡ Some t → s ≡ t
no_more g trace can s holds all [] t along = same_Some s t along
no_more g trace can s holds all (j ∷ later) t along =
    option_and_then_some {P = s ≡ t} (serial_run g later) (serial_step g j s) t along
    (λ x step rest.
    let k = stepped g j s x step in
    let there = message_there j s k.0 k.1 in
    let p = port_there g.ports s.messages j.task j.number k.0 holds.long there.1 in
    let range = port_task g j.task p.0 p.1 in
    let ports = length-map g.ports (tables.task_of g) in
    let n = numbered_within (messages_at s j.task) j.number k.0 there.1 in
    let h = all j.task range.0 (omega (arith, range.1)) in
    absurd (omega (arith, n.1, there.0)))

module _ (g : GraphTree) (trace : List Message) (can : CanRun g trace) (a b : Ticks) (whole_a whole_b : Serial) (plan_a plan_b : List PlanItem)
    (ra : IsRuleRun g trace can a whole_a plan_a) (rb : IsRuleRun g trace can b whole_b plan_b) where
  -- where both have the same ticks so far, the rule gives the next one to the same job
  same_choice : (t : ℕ) → t < length a → t < length b → Agree a b t → choice (tasks_of g) plan_a a t ≡ choice (tasks_of g) plan_b b t
  same_choice t ta tb agree =
      by (least (rank (tasks_of g) a t) (waits a t) plan_a) (least_is (rank (tasks_of g) a t) (waits a t) plan_a)
      ∙ choice_same (tasks_of g) plan_b a b t agree
    where
      into : (z : PlanItem) → Has plan_a z → IsWaiting a t z → IsTwin g trace can plan_b b t z
      into z has w = twin_of g trace can a b whole_a whole_b plan_a plan_b ra rb t ta tb agree z has w

      back : (z : PlanItem) → Has plan_b z → IsWaiting b t z → IsTwin g trace can plan_a a t z
      back z has w = twin_of g trace can b a whole_b whole_a plan_b plan_a rb ra t tb ta (flip a b t agree) z has w

      by : (o : Option PlanItem) → IsLeast (rank (tasks_of g) a t) (waits a t) plan_a o → choice (tasks_of g) plan_a a t ≡ choice (tasks_of g) plan_b a t
      by None h =
          rule_is_least.none (tasks_of g) plan_a a t (λ z has w. h z has (waits_from a t z w))
          ∙ sym (rule_is_least.none (tasks_of g) plan_b a t (λ z has w.
          let y = back z has (waits_in a b t z agree w) in h y.twin y.has (waits_from a t y.twin y.waiting)))
      by (Some r) h =
          let first : (z : PlanItem) → Has plan_a z → IsWaiting a t z → precedes (rank (tasks_of g) a t z) (rank (tasks_of g) a t r) ≡ false = λ z has w.
          false_from_ne_true (precedes (rank (tasks_of g) a t z) (rank (tasks_of g) a t r)) (h.first z has (waits_from a t z w)) in
          let w = waits_true a t r h.passing in
          let y = into r h.has w in
          let same = rank_like (tasks_of g) a t y.twin r y.job y.arrival in
          rule_is_least.some (tasks_of g) plan_a a t r (record { has = h.has; waiting = w; first = first })
          ∙ ap (λ (j : Job). Some j) (sym y.job)
          ∙ sym (rule_is_least.some (tasks_of g) plan_b a t y.twin (record {
            has = y.has;
            waiting = waits_in b a t y.twin (flip a b t agree) y.waiting;
            first = λ z has u.
                let x = back z has (waits_in a b t z agree u) in
                let rx = rank_like (tasks_of g) a t x.twin z x.job x.arrival in
                ap₂ (λ (p q : List ℕ). precedes p q) (sym rx) same ∙ first x.twin x.has x.waiting;
          }))

  pub agree_to : (t : ℕ) → t ≤ length a → t ≤ length b → Agree a b t
  agree_to zero ta tb u lt = absurd (omega arith)
  agree_to (suc t) ta tb u lt =
      let before = agree_to t (omega arith) (omega arith) in
      ⊎_elim
      (λ (l : u < t). before u l)
      (λ (ge : t ≤ u).
      let e : t ≡ u = omega arith in
      subst (λ (v : ℕ). tick a v ≡ tick b v) e
      (ra.rule t (omega arith) ∙ same_choice t (omega arith) (omega arith) before ∙ sym (rb.rule t (omega arith))))
      (cases_lt u t)

module _ (g : GraphTree) (trace : List Message) (can : CanRun g trace) (a b : Ticks) (lines more : List OutLine) (pa : IsPromisedRun g trace a lines) (pb : IsPromisedRun g trace b more) where
  -- of two runs the one that is not longer is the other
  not_longer : length a ≤ length b → (a ≡ b) × (lines ≡ more)
  not_longer le =
      let n = length a in
      let agree = agree_to g trace can a b pa.tells.serial pb.tells.serial (plan_of_log g trace a) (plan_of_log g trace b) (promised_is g trace can a lines pa) (promised_is g trace can b more pb) n (omega arith) le in
      let A = pa.tells.serial in
      let B = pb.tells.serial in
      let x = at_tick g trace can b B pb.tells.along n le in
      let now : x.now ≡ A = same_Some x.now A (sym x.along ∙ ap (λ (o : List Job). serial_run g o (start g trace)) (sym (begun_same a b n agree)) ∙ pa.tells.along) in
      let holds = serial_holds g can.well_formed can.rates trace can.keeps (order_of a) A pa.tells.along in
      let whole : A ≡ B = no_more g trace can A holds pa.tells.all x.later B (subst (λ (s : Serial). serial_run g x.later s ≡ Some B) now x.rest) in
      let shown : lines ≡ more = pa.tells.shown ∙ ap (λ (s : Serial). sort_by line_before s.lines) whole ∙ sym pb.tells.shown in
      let idle : (u : ℕ) → n ≤ u → tick b u ≡ None = λ u past. none_after u (tick b u) refl past agree whole in
      let busy = busy_until_le b n (length b) idle in
      let last : latest lines ≡ latest more = ap latest shown in
      let ea = pa.tells.ends in
      let eb = pb.tells.ends in
      (same_log a b (omega arith) agree, shown)
    where
      none_after : (u : ℕ) (o : Option Job) → tick b u ≡ o → length a ≤ u → Agree a b (length a) → pa.tells.serial ≡ pb.tells.serial → tick b u ≡ None
      none_after u None e past agree whole = e
      none_after u (Some j) e past agree whole =
          let l = pb.tells.lawful u j e in
          let z = l.0 in
          let inside : Has (items_of pa.tells.serial) z = subst (λ (s : Serial). Has (items_of s) z) (sym whole) (in_items g trace can b pb.tells.serial pb.tells.along z l.1) in
          let fin = pa.tells.finished z (in_plan g trace can a pa.tells.serial pa.tells.along z inside) in
          let d = done_same a b z.job (length a) agree in
          let grows = done_grows b z.job (length a) u past in
          let un = l.3.unfinished in
          absurd (omega arith)

pub runs_are_one : (g : GraphTree) (trace : List Message) → CanRun g trace → (a b : Ticks) (lines more : List OutLine)
    → IsPromisedRun g trace a lines → IsPromisedRun g trace b more → (a ≡ b) × (lines ≡ more)
runs_are_one g trace can a b lines more pa pb =
    ⊎_elim
    (λ (lt : length a < length b). not_longer g trace can a b lines more pa pb (omega arith))
    (λ (ge : length b ≤ length a). let r = not_longer g trace can b a more lines pb pa ge in (sym r.0, sym r.1))
    (cases_lt (length a) (length b))
