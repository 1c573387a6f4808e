-- Serial handling step by step: what a job adds, and what more jobs leave.
use Rattle.std.proofs.Common.{◌≡◌, ◌⊎◌, ℕ, zero, suc, ◌+◌, ◌-◌, ◌<◌, ◌≤◌, List, [], ◌∷◌, ◌++◌, length, slice_get, Option, Some, refl, sym, ap, subst, ◌∙◌, inl, inr, ⊎_elim, arith}
use Rattle.std.specs.Option.{option_and_then, option_map_or, unwrap_or}
use Rattle.std.proofs.lemmas.Bool.{cases_eq, cases_lt}
use Rattle.std.proofs.lemmas.List.{map_push}
use Rattle.std.proofs.lemmas.Option.{none-some, same_Some, option_and_then_some}
use Rattle.yt_graph.specs.declared.handled.SendItem.{SendItem}
use Rattle.yt_graph.specs.declared.port.Feed.{Feed}
use Rattle.yt_graph.specs.Meaning.{handling}
use Rattle.yt_graph.specs.Picture.{GraphTree, PortTree}
use Rattle.yt_log.specs.declared.job.Job.{Job}
use Rattle.yt_log.specs.declared.plan.PlanItem.{PlanItem}
use Rattle.yt_log.specs.Patterns.{item_before}
use Rattle.yt_log.specs.Plan.{jobs_of}
use Rattle.yt_log.specs.Tasks.{Has}
use Rattle.yt_log.specs.Ticks.{Ticks, done}
use Rattle.yt_log.proofs.Lemmas.{has_push, jobs_push_same, jobs_push_other}
use Rattle.yt_log.proofs.Lemmas.{has_last, has_left, has_sorted, sorted_has}
use Rattle.yt_rates.specs.Rates.{period_of}
use Rattle.yt_trace.specs.declared.message.Message.{Message}
use Rattle.yt_serial.specs.Beginnings.{begun_below, nth_job, order_of}
use Rattle.yt_serial.specs.Premises.{CanRun}
use Rattle.yt_serial.specs.PortMessages.{passed}
use Rattle.yt_trace.specs.Traces.{PortMessage}
use Rattle.yt_list.specs.Numbered.{numbered}
use Rattle.yt_serial.specs.SerialHandling.{Handled, Serial, messages_at, items_of, handled_of, brought, start, port_of, handle_message, message_of, serial_step, serial_run, plan_of, plan_of_log}
use Rattle.yt_graph.specs.Labels.{no_port}
use Rattle.yt_serial.proofs.Orders.{goes_on}
use Rattle.yt_serial.proofs.Sends.{spaced_within}
use Rattle.yt_serial.proofs.SerialInvariant.{Holds}
use Rattle.yt_serial.proofs.SerialRuns.{holds_stepped, serial_holds, stepped}
use Rattle.yt_serial.proofs.SerialStates.{BringsOf, brings, message_there, placed_at, port_there}
use Rattle.yt_serial.proofs.Spread.{get_cases, numbered_left}

-- the item of a job that handles a message, and what it passes on through its outs
abbrev pub step_item : GraphTree → Job → PortMessage → Serial → PlanItem
step_item g job m s = record { job = job; arrival = m.time; cost = (handling g (port_of g job) m.values s.vars).ticks }

abbrev pub step_passes : GraphTree → Job → PortMessage → Serial → ℕ → List PortMessage
step_passes g job m s = passed g (port_of g job) job.number m.time (handling g (port_of g job) m.values s.vars).sends

-- what a job passes on comes no earlier than its deadline
pub sent_late : (g : GraphTree) (q : PortTree) (job : Job) (arrival : ℕ) (sends : List SendItem) (f : Feed) (k : ℕ) (x : PortMessage)
    → slice_get (brought job.task (passed g q job.number arrival sends) f) k ≡ Some x → arrival + period_of g q ≤ x.time
sent_late g q job arrival sends f k x there =
    ⊎_elim
    (λ (e : brought job.task (passed g q job.number arrival sends) f ≡ []). absurd (none-some x (sym (ap (λ (ms : List PortMessage). slice_get ms k) e) ∙ there)))
    (λ (c : BringsOf g q job.task job.number arrival sends f (brought job.task (passed g q job.number arrival sends) f)).
    (spaced_within c.out (arrival + period_of g q) _ sends k x (ap (λ (ms : List PortMessage). slice_get ms k) (sym c.spaced) ∙ there)).starts)
    (brings g q job.task job.number arrival sends f)

-- serial handling along two orders, one behind the other, comes through the first
pub run_split : (g : GraphTree) (xs ys : List Job) (a t : Serial) → serial_run g (xs ++ ys) a ≡ Some t → (s : Serial) × (serial_run g xs a ≡ Some s) × (serial_run g ys s ≡ Some t)
run_split g [] ys a t h = (a, refl, h)
run_split g (j ∷ xs) ys a t h =
    option_and_then_some {P = (s : Serial) × (serial_run g (j ∷ xs) a ≡ Some s) × (serial_run g ys s ≡ Some t)} (serial_run g (xs ++ ys)) (serial_step g j a) t h
    (λ x step rest. let r = run_split g xs ys x t rest in (r.0, ap (option_and_then (serial_run g xs)) step ∙ r.1, r.2))

-- serial handling along an order goes through each of its parts
pub run_rest : (g : GraphTree) (xs ys : List Job) (a s t : Serial) → serial_run g xs a ≡ Some s → serial_run g (xs ++ ys) a ≡ Some t → serial_run g ys s ≡ Some t
run_rest g [] ys a s t h k = subst (λ (x : Serial). serial_run g ys x ≡ Some t) (same_Some a s h) k
run_rest g (j ∷ xs) ys a s t h k =
    option_and_then_some {P = serial_run g ys s ≡ Some t} (serial_run g xs) (serial_step g j a) s h
    (λ x step rest. run_rest g xs ys x s t rest (sym (ap (option_and_then (serial_run g (xs ++ ys))) step) ∙ k))

-- a message that a job brought comes no earlier than its deadline
pub record IsBrought (g : GraphTree) (later : List Job) (s : Serial) (m : PortMessage) : Type 0 where
  pub item : PlanItem
  pub has : Has (items_of s) item
  pub by : Has later item.job
  pub port : PortTree
  pub there : numbered g.ports item.job.task ≡ Some port
  pub late : item.arrival + period_of g port ≤ m.time

-- what serial handling goes on to along more jobs
pub record GoesOnTo (g : GraphTree) (later : List Job) (s t : Serial) : Type 0 where
  pub items : (z : PlanItem) → Has (items_of s) z → Has (items_of t) z
  pub old : (z : PlanItem) → Has (items_of t) z → Has (items_of s) z ⊎ Has later z.job
  pub each : (j : Job) → Has later j → (z : PlanItem) × (Has (items_of t) z) × (z.job ≡ j)
  pub stays : (port n : ℕ) (m : PortMessage) → numbered (messages_at s port) n ≡ Some m → numbered (messages_at t port) n ≡ Some m
  pub brought : (port n : ℕ) (m : PortMessage) → numbered (messages_at t port) n ≡ Some m → (numbered (messages_at s port) n ≡ Some m) ⊎ IsBrought g later t m
  pub numbers : ((port k : ℕ) → 1 ≤ k → k ≤ handled_of s port → (z : PlanItem) × (Has (items_of s) z) × (z.job ≡ nth_job port k)) → (port k : ℕ) → 1 ≤ k → k ≤ handled_of t port → (z : PlanItem) × (Has (items_of t) z) × (z.job ≡ nth_job port k)

module _ (g : GraphTree) (trace : List Message) (can : CanRun g trace) where
  -- one job
  module _ (job : Job) (s : Serial) (holds : Holds g s) (m : PortMessage) (next : message_of job s ≡ Some m) where
    abbrev t : Serial
    t = handle_message g job m s

    abbrev item : PlanItem
    item = step_item g job m s

    abbrev passes : ℕ → List PortMessage
    passes = step_passes g job m s

    items_after : items_of t ≡ items_of s ++ step_item g job m s ∷ []
    items_after = map_push (λ (h : Handled). h.item) s.handled (record { item = step_item g job m s; writes = (handling g (port_of g job) m.values s.vars).writes })

    has_new : Has (items_of (handle_message g job m s)) (step_item g job m s)
    has_new = subst (λ (is : List PlanItem). Has is (step_item g job m s)) (sym items_after) (has_last (items_of s) (step_item g job m s))

    has_before : (z : PlanItem) → Has (items_of s) z → Has (items_of (handle_message g job m s)) z
    has_before z has = subst (λ (is : List PlanItem). Has is z) (sym items_after) (has_left (items_of s) (step_item g job m s ∷ []) z has)

    has_cases : (z : PlanItem) → Has (items_of (handle_message g job m s)) z → Has (items_of s) z ⊎ (z ≡ step_item g job m s)
    has_cases z has = has_push (items_of s) (step_item g job m s) z (subst (λ (is : List PlanItem). Has is z) items_after has)

    stays_one : (port n : ℕ) (x : PortMessage) → numbered (messages_at s port) n ≡ Some x → numbered (messages_at (handle_message g job m s) port) n ≡ Some x
    stays_one port n x there = let p = port_there g.ports s.messages port n x holds.long there in at port p.0 p.1 there
      where
        at : (port : ℕ) (p : PortTree) → numbered g.ports port ≡ Some p → numbered (messages_at s port) n ≡ Some x → numbered (messages_at (handle_message g job m s) port) n ≡ Some x
        at zero p is there = absurd (none-some p is)
        at (suc k) p is there =
            subst (λ (ms : List PortMessage). numbered ms n ≡ Some x) (sym (placed_at (brought job.task (step_passes g job m s)) g.ports s.messages k p holds.long is))
            (numbered_left (messages_at s (suc k)) (brought job.task (step_passes g job m s) p.feed) n x there)

    job_port : (q : PortTree) × (numbered g.ports job.task ≡ Some q)
    job_port = let k = message_there job s m next in port_there g.ports s.messages job.task job.number m holds.long k.1

    brought_one : (holds' : Holds g (handle_message g job m s)) (port n : ℕ) (x : PortMessage) → numbered (messages_at (handle_message g job m s) port) n ≡ Some x
        → (numbered (messages_at s port) n ≡ Some x) ⊎ IsBrought g (job ∷ []) (handle_message g job m s) x
    brought_one holds' port zero x there = absurd (none-some x there)
    brought_one holds' port (suc i) x there = let p = port_there g.ports (handle_message g job m s).messages port (suc i) x holds'.long there in at port p.0 p.1 there
      where
        at : (port : ℕ) (p : PortTree) → numbered g.ports port ≡ Some p → slice_get (messages_at (handle_message g job m s) port) i ≡ Some x
            → (slice_get (messages_at s port) i ≡ Some x) ⊎ IsBrought g (job ∷ []) (handle_message g job m s) x
        at zero p is there = absurd (none-some p is)
        at (suc k) p is there =
            ⊎_elim
            (λ (old : slice_get (messages_at s (suc k)) i ≡ Some x). inl old)
            (λ (new : (j : ℕ) × (i ≡ length (messages_at s (suc k)) + j) × (slice_get (brought job.task (step_passes g job m s) p.feed) j ≡ Some x)).
            let q = job_port in
            let late = sent_late g (port_of g job) job m.time (handling g (port_of g job) m.values s.vars).sends p.feed new.0 x new.2 in
            inr (record {
              item = step_item g job m s;
              has = has_new;
              by = inl refl;
              port = q.0;
              there = q.1;
              late = subst (λ (y : PortTree). m.time + period_of g y ≤ x.time) (ap (λ (o : Option PortTree). unwrap_or o no_port) q.1) late;
            }))
            (get_cases (messages_at s (suc k)) (brought job.task (step_passes g job m s) p.feed) i x
            (subst (λ (ms : List PortMessage). slice_get ms i ≡ Some x) (placed_at (brought job.task (step_passes g job m s)) g.ports s.messages k p holds.long is) there))

    numbers_one : ((port k : ℕ) → 1 ≤ k → k ≤ handled_of s port → (z : PlanItem) × (Has (items_of s) z) × (z.job ≡ nth_job port k))
        → (port k : ℕ) → 1 ≤ k → k ≤ handled_of (handle_message g job m s) port → (z : PlanItem) × (Has (items_of (handle_message g job m s)) z) × (z.job ≡ nth_job port k)
    numbers_one all port k some le =
        ⊎_elim
        (λ (e : job.task ≡ port).
        let count : handled_of (handle_message g job m s) port ≡ suc (handled_of s port) = ap (jobs_of port) items_after ∙ jobs_push_same port (items_of s) (step_item g job m s) e in
        ⊎_elim
        (λ (lt : k < suc (handled_of s port)). old (all port k some (omega arith)))
        (λ (ge : suc (handled_of s port) ≤ k).
        let n = (message_there job s m next).0 in
        let f : handled_of s job.task ≡ handled_of s port = ap (handled_of s) e in
        let number : job.number ≡ k = omega arith in
        (step_item g job m s, has_new, ap (λ (i : ℕ). nth_job i job.number) e ∙ ap (nth_job port) number))
        (cases_lt k (suc (handled_of s port))))
        (λ (ne : job.task ≡ port → ⊥).
        let count : handled_of (handle_message g job m s) port ≡ handled_of s port = ap (jobs_of port) items_after ∙ jobs_push_other port (items_of s) (step_item g job m s) ne in
        old (all port k some (omega arith)))
        (cases_eq job.task port)
      where
        old : (z : PlanItem) × (Has (items_of s) z) × (z.job ≡ nth_job port k) → (z : PlanItem) × (Has (items_of (handle_message g job m s)) z) × (z.job ≡ nth_job port k)
        old (z, has, is) = (z, has_before z has, is)

    one_job : Holds g (handle_message g job m s) → GoesOnTo g (job ∷ []) s (handle_message g job m s)
    one_job holds' = record {
      items = has_before;
      old = λ z has. ⊎_elim (λ (h : Has (items_of s) z). inl h) (λ (e : z ≡ step_item g job m s). inr (inl (ap (λ (x : PlanItem). x.job) e))) (has_cases z has);
      each = λ j has. ⊎_elim (λ (e : j ≡ job). (step_item g job m s, has_new, sym e)) (λ (k : ⊥). absurd k) has;
      stays = stays_one;
      brought = brought_one holds';
      numbers = numbers_one;
    }

  -- the jobs of two orders, one behind the other
  along_both : (j : Job) (rest : List Job) (s x t : Serial) → GoesOnTo g (j ∷ []) s x → GoesOnTo g rest x t → GoesOnTo g (j ∷ rest) s t
  along_both j rest s x t a b = record {
    items = λ z has. b.items z (a.items z has);
    old = λ z has. ⊎_elim
        (λ (h : Has (items_of x) z). ⊎_elim (λ (k : Has (items_of s) z). inl k) (λ (k : Has (j ∷ []) z.job). inr (⊎_elim (λ (e : z.job ≡ j). inl e) (λ (l : ⊥). absurd l) k)) (a.old z h))
        (λ (h : Has rest z.job). inr (inr h))
        (b.old z has);
    each = λ i has. ⊎_elim
        (λ (e : i ≡ j). let r = a.each j (inl refl) in (r.0, b.items r.0 r.1, r.2 ∙ sym e))
        (λ (h : Has rest i). b.each i h)
        has;
    stays = λ port n m there. b.stays port n m (a.stays port n m there);
    brought = λ port n m there. ⊎_elim
        (λ (h : numbered (messages_at x port) n ≡ Some m). ⊎_elim
        (λ (k : numbered (messages_at s port) n ≡ Some m). inl k)
        (λ (k : IsBrought g (j ∷ []) x m). inr (record {
          item = k.item;
          has = b.items k.item k.has;
          by = ⊎_elim (λ (e : k.item.job ≡ j). inl e) (λ (l : ⊥). absurd l) k.by;
          port = k.port;
          there = k.there;
          late = k.late;
        }))
        (a.brought port n m h))
        (λ (h : IsBrought g rest t m). inr (record { item = h.item; has = h.has; by = inr h.by; port = h.port; there = h.there; late = h.late }))
        (b.brought port n m there);
    numbers = λ all. b.numbers (a.numbers all);
  }

  goes_on_to : (later : List Job) (s t : Serial) → Holds g s → serial_run g later s ≡ Some t → GoesOnTo g later s t
  goes_on_to [] s t holds along =
      let e : s ≡ t = same_Some s t along in
      subst (GoesOnTo g [] s) e (record {
        items = λ z has. has;
        old = λ z has. inl has;
        each = λ j has. absurd has;
        stays = λ port n m there. there;
        brought = λ port n m there. inl there;
        numbers = λ all. all;
      })
  goes_on_to (j ∷ later) s t holds along =
      option_and_then_some {P = GoesOnTo g (j ∷ later) s t} (serial_run g later) (serial_step g j s) t along
      (λ x step rest.
      let k = stepped g j s x step in
      let holds' = holds_stepped g can.well_formed can.rates j s x holds step in
      let first : GoesOnTo g (j ∷ []) s x = subst (GoesOnTo g (j ∷ []) s) k.2 (one_job j s holds k.0 k.1 (subst (Holds g) (sym k.2) holds')) in
      along_both j later s x t first (goes_on_to later x t holds' rest))

  -- what serial handling has come to at a tick of a log
  pub record AtTick (log : Ticks) (whole : Serial) (t : ℕ) : Type 0 where
    pub now : Serial
    pub later : List Job
    pub along : serial_run g (begun_below log t) (start g trace) ≡ Some now
    pub rest : serial_run g later now ≡ Some whole
    pub order : order_of log ≡ begun_below log t ++ later
    pub on : GoesOnTo g later now whole
    pub none : (j : Job) → Has later j → done log j t ≡ 0

  pub at_tick : (log : Ticks) (whole : Serial) → serial_run g (order_of log) (start g trace) ≡ Some whole → (t : ℕ) → t ≤ length log → AtTick log whole t
  at_tick log whole along t le =
      let go = goes_on log t (length log - t) in
      let long : length log ≡ t + (length log - t) = omega arith in
      let order : order_of log ≡ begun_below log t ++ go.later = ap (begun_below log) long ∙ go.order in
      let split = run_split g (begun_below log t) go.later (start g trace) whole (ap (λ (o : List Job). serial_run g o (start g trace)) (sym order) ∙ along) in
      let holds = serial_holds g can.well_formed can.rates trace can.keeps (begun_below log t) split.0 split.1 in
      record {
        now = split.0;
        later = go.later;
        along = split.1;
        rest = split.2;
        order = order;
        on = goes_on_to go.later split.0 whole holds split.2;
        none = go.none;
      }

  -- from the start on
  pub from_start : (order : List Job) (s : Serial) → serial_run g order (start g trace) ≡ Some s → GoesOnTo g order (start g trace) s
  from_start order s along =
      goes_on_to order (start g trace) s (serial_holds g can.well_formed can.rates trace can.keeps [] (start g trace) refl) along

  pub plan_is : (log : Ticks) (whole : Serial) → serial_run g (order_of log) (start g trace) ≡ Some whole → plan_of_log g trace log ≡ plan_of whole
  plan_is log whole along = ap (λ (o : Option Serial). option_map_or plan_of o []) along

  pub in_items : (log : Ticks) (whole : Serial) → serial_run g (order_of log) (start g trace) ≡ Some whole → (z : PlanItem) → Has (plan_of_log g trace log) z → Has (items_of whole) z
  in_items log whole along z has = has_sorted item_before (items_of whole) z (subst (λ (xs : List PlanItem). Has xs z) (plan_is log whole along) has)

  pub in_plan : (log : Ticks) (whole : Serial) → serial_run g (order_of log) (start g trace) ≡ Some whole → (z : PlanItem) → Has (items_of whole) z → Has (plan_of_log g trace log) z
  in_plan log whole along z has = subst (λ (xs : List PlanItem). Has xs z) (sym (plan_is log whole along)) (sorted_has item_before (items_of whole) z has)
