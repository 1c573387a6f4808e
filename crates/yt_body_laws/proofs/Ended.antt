-- A run idles up to what comes next, and ends where nothing comes any more.
use Rattle.std.proofs.Common.{◌≡◌, ◌⊎◌, ℕ, zero, suc, ◌-◌, ◌*◌, ◌<◌, ◌≤◌, max, ltb, eqb, List, [], ◌∷◌, length, replicate, slice_get, Option, None, Some, refl, sym, ap, subst, ◌∙◌, inl, inr, ⊎_elim, arith, length-append, le-ltb, lt-ltb, eq-eqb, ne_eqb}
use Rattle.std.specs.List.{Contains}
use Rattle.std.proofs.lemmas.Bool.{cases_eq, cases_lt, cond-true, cond-false}
use Rattle.std.proofs.lemmas.List.{length-replicate}
use Rattle.std.proofs.lemmas.Nat.{mul-le}
use Rattle.std.proofs.lemmas.Option.{none-some, same_Some, slice_get_within}
use Rattle.yt_graph.specs.Cost.{greatest_sends}
use Rattle.yt_list.specs.Numbered.{numbered}
use Rattle.yt_set.specs.declared.task.Task.{Task}
use Rattle.yt_set.specs.Tasks.{within}
use Rattle.yt_log.specs.declared.job.Job.{Job}
use Rattle.yt_log.specs.declared.plan.PlanItem.{PlanItem}
use Rattle.yt_log.specs.Limits.{most_arrival, most_deadline}
use Rattle.yt_log.specs.Tasks.{Has}
use Rattle.yt_ready.specs.declared.entry.Entry.{Entry}
use Rattle.yt_exec.specs.Bodies.{task_in}
use Rattle.yt_exec.specs.Moments.{Moment, at_tick, job_in}
use Rattle.yt_exec.specs.StandsFor.{IdlesTo}
use Rattle.yt_chan.specs.declared.target.Arrived as target
use Rattle.yt_chan.specs.declared.target.Arrived.{Arrived}
use Rattle.yt_chan.specs.declared.wire.Wire.{Wire}
use Rattle.yt_chan.specs.Pending.{Pending}
use Rattle.yt_chan.specs.State.{NoneIsLate, Waits, waits_at}
use Rattle.yt_chan.specs.Wires.{wire_at, wire_to}
use Rattle.yt_rates.specs.Acceptance.{Parts}
use Rattle.yt_rates.specs.Rates.{gap_of, reach_of, within_of}
use Rattle.yt_rates.specs.Tables.{tasks_of}
use Rattle.yt_trace.specs.declared.message.Message.{Message}
use Rattle.yt_serial.specs.declared.shown.OutLine.{OutLine}
use Rattle.yt_serial.specs.Beginnings.{busy_until, order_of}
use Rattle.yt_serial.specs.Lines.{lines_of}
use Rattle.yt_serial.specs.PortMessages.{PortMessage}
use Rattle.yt_serial.specs.Premises.{IsHandling}
use Rattle.yt_serial.specs.SerialHandling.{Serial, messages_at, shown}
use Rattle.yt_serial.specs.Told.{IsPromisedRun, latest}
use Rattle.yt_serial.proofs.Lemmas.{numbered_within, port_task}
use Rattle.yt_schedule_laws.proofs.Lemmas.{by_start, has_numbered, rated}
use Rattle.yt_interleave.specs.Carrying.{as_message}
use Rattle.yt_interleave.specs.Executives.{AllReleased}
use Rattle.yt_interleave.specs.Interleaved.{RunState, known_at, port_at, with_idles}
use Rattle.yt_interleave.specs.Lines.{come_before, messages_to}
use Rattle.yt_interleave.specs.Moves.{AllKnownHandled}
use Rattle.yt_interleave.specs.Runs.{AllShown}
use Rattle.yt_interleave.specs.Waits.{NoneComesBefore}
use Rattle.yt_interleave.proofs.Lemmas.{executives_follow, executives_tick, known_first, known_port, runs_are_on_time, runs_end, runs_go_on}
use Rattle.yt_body.specs.State.{HandlersState, left_at}
use Rattle.yt_body.specs.Wiring.{wires_of}
use Rattle.yt_body_laws.specs.Carrying.{IsSentBy}
use Rattle.yt_body_laws.specs.Placing.{FeedsSome}
use Rattle.yt_body_laws.specs.Reading.{IsReadTo, NextIsFrom}
use Rattle.yt_body_laws.specs.Running.{ComesAt, EndsWithJob, HasCause, HasIdled, IsInStep}
use Rattle.yt_body_laws.proofs.Carried.{wires_are}
use Rattle.yt_body_laws.proofs.Codes.{graph_in}
use Rattle.yt_body_laws.proofs.Idle.{bodies_idle}
use Rattle.yt_body_laws.proofs.Reading.{bodies_read}
use Rattle.yt_body_laws.proofs.Rest.{bodies_rest}
use Rattle.yt_body_laws.proofs.Room.{over_there, waits_known}
use Rattle.yt_body_laws.proofs.Sources.{IsOfOut, limited, of_out}
use Rattle.yt_body_laws.proofs.Traces.{as_known, as_port}

-- a line of an output is one of all lines
lines_back : (n : ℕ) (lines : List OutLine) (l : OutLine) → Has (lines_of n lines) l → Has lines l
lines_back n [] l h = h
lines_back n (x ∷ lines) l h =
    ⊎_elim
    (λ (e : x.output ≡ n).
    ⊎_elim
    (λ (same : l ≡ x). inl same)
    (λ (rest : Has (lines_of n lines) l). inr (lines_back n lines l rest))
    (subst (λ (ls : List OutLine). Has ls l) (cond-true (eqb x.output n) (x ∷ lines_of n lines) (lines_of n lines) (eq-eqb x.output n e)) h))
    (λ (ne : x.output ≡ n → ⊥).
    inr (lines_back n lines l (subst (λ (ls : List OutLine). Has ls l) (cond-false (eqb x.output n) (x ∷ lines_of n lines) (lines_of n lines) (ne_eqb x.output n ne)) h)))
    (cases_eq x.output n)

-- each message that comes before a tick is shown
before_shown : (n t : ℕ) (ms : List PortMessage) (k : ℕ) (m : PortMessage) → slice_get ms k ≡ Some m → m.time < t → Has (shown n (come_before t ms)) (record { time = m.time; output = n; values = m.values })
before_shown n t [] k m h lt = absurd (none-some m h)
before_shown n t (x ∷ ms) zero m h lt =
    let same : x ≡ m = same_Some x m h in
    let early : x.time < t = subst (λ (y : PortMessage). y.time < t) (sym same) lt in
    subst (λ (ys : List PortMessage). Has (shown n ys) (record { time = m.time; output = n; values = m.values })) (sym (cond-true (ltb x.time t) (x ∷ come_before t ms) (come_before t ms) (lt-ltb x.time t early)))
    (inl (ap (λ (y : PortMessage). record { time = y.time; output = n; values = y.values }) (sym same)))
before_shown n t (x ∷ ms) (suc k) m h lt =
    let rest = before_shown n t ms k m h lt in
    let line : OutLine = record { time = m.time; output = n; values = m.values } in
    ⊎_elim
    (λ (early : x.time < t).
    subst (λ (ys : List PortMessage). Has (shown n ys) line) (sym (cond-true (ltb x.time t) (x ∷ come_before t ms) (come_before t ms) (lt-ltb x.time t early))) (inr rest))
    (λ (late : t ≤ x.time).
    subst (λ (ys : List PortMessage). Has (shown n ys) line) (sym (cond-false (ltb x.time t) (x ∷ come_before t ms) (come_before t ms) (le-ltb x.time t late))) rest)
    (cases_lt x.time t)

module _ (parts : Parts) (trace : List Message) (s : Serial) (r : RunState) (plan : List PlanItem) (lines : List OutLine) (due : ℕ) (b : HandlersState) (moment : Moment)
    (is : IsInStep parts trace s r plan lines due b moment) where
  -- idle ticks up to a tick before which nothing comes
  module _ (taken : ℕ) (read : IsReadTo (graph_in parts) trace due taken) (t : ℕ) (le : due ≤ t) (none : NoneIsLate b.channels t) (from : NextIsFrom trace taken t) (idles : IdlesTo moment (at_tick t moment)) where
    read_on : IsReadTo (graph_in parts) trace t taken
    read_on = (bodies_read.later (graph_in parts) trace is.can.can.keeps.order due taken t read le from).0

    none_before : NoneComesBefore r due t
    none_before =
        bodies_rest.next_comes parts trace is.can.can s r is.running.interleaves due t b is.carries none
        (bodies_read.later (graph_in parts) trace is.can.can.keeps.order due taken t read le from).1

    idle_long : length (with_idles (t - length r.log) r).log ≡ t
    idle_long =
        let low = is.from in
        let both = length-append r.log (replicate (t - length r.log) None) in
        let count = length-replicate {A = Option Job} (t - length r.log) None in
        omega arith

    idles_to : HasIdled parts trace s r plan lines taken t b (at_tick t moment)
    idles_to =
        let low = is.from in
        let clock = is.executes.stands.clock in
        let still = executives_tick.idles_on (graph_in parts) trace is.can s r due plan lines is.running moment (at_tick t moment) (left_at b) is.executes refl le (omega arith) none_before idles in
        let count : t - moment.clock ≡ t - length r.log = ap (λ (n : ℕ). t - n) clock in
        let step : IsInStep parts trace s (with_idles (t - moment.clock) r) plan lines t b (at_tick t moment) = record {
          accepted = is.accepted;
          can = is.can;
          running = still.running;
          executes = record { tasks = is.executes.tasks; stands = still.stands };
          carries = bodies_idle.idles_on parts s r due t (t - moment.clock) b is.carries le none_before;
          from = let long : length (with_idles (t - moment.clock) r).log ≡ t = ap (λ (n : ℕ). length (with_idles n r).log) count ∙ idle_long in omega arith;
          to = let long : length (with_idles (t - moment.clock) r).log ≡ t = ap (λ (n : ℕ). length (with_idles n r).log) count ∙ idle_long in omega arith;
        } in
        record {
          in_step = subst (λ (n : ℕ). IsInStep parts trace s (with_idles n r) plan lines t b (at_tick t moment)) count step;
          read = read_on;
          long = idle_long;
        }

  pub idles_on : (taken : ℕ) → IsReadTo (graph_in parts) trace due taken → (t : ℕ) → due ≤ t → NoneIsLate b.channels t → NextIsFrom trace taken t → (next : Moment) → next ≡ at_tick t moment →
      IdlesTo moment next → HasIdled parts trace s r plan lines taken t b next
  idles_on taken read t le none from next same idles =
      subst (HasIdled parts trace s r plan lines taken t b) (sym same) (idles_to taken read t le none from (subst (IdlesTo moment) same idles))

  -- what waits comes
  waits_at_target : (to : Arrived) (m : Pending) → Contains (waits_at b.channels to) m → ComesAt r m.time
  waits_at_target (target.TheVariants.Port port) m has =
      let w = waits_known parts s r (λ other. due) b is.carries (target.TheVariants.Port port) m has in
      inl (port, suc w.0, as_message m, over_there (port_at (graph_in parts) port).feed (known_at r port) w.0 (as_message m) w.1, refl)
  waits_at_target (target.TheVariants.Output output) m has =
      let w = waits_known parts s r (λ other. due) b is.carries (target.TheVariants.Output output) m has in
      inr (output, w.0, as_message m, w.1, refl)

  pub waiting_comes : (m : Pending) → Waits b.channels m → ComesAt r m.time
  waiting_comes m (to, has) = waits_at_target to m has

  pub read_comes : (k : ℕ) (x : Message) → slice_get trace k ≡ Some x → FeedsSome (graph_in parts) x.input → ComesAt r x.time
  read_comes k x at (port, fed) =
      let n = as_known (graph_in parts) trace is.can.can s r is.running.interleaves port x fed k at in
      inl (port, n.0, as_port x, n.1, refl)

  -- serial handling has come as far as the log
  handling : IsHandling (graph_in parts) trace (order_of r.log) s
  handling = record { can = is.can.can; along = is.running.interleaves.stands.along }

  pub comes_early : (m : Pending) → Waits b.channels m → m.time ≤ most_arrival
  comes_early m (to, has) =
      let g = graph_in parts in
      let place = wire_to (wires_of g) to in
      let wires = wires_are parts b is.carries.graph is.carries.sound in
      let inside : place < length (wires_of g) =
      subst (λ (ws : List Wire). wire_to ws to < length ws) wires (is.carries.sound.waiting_wide to m has).0 in
      let source : IsOfOut g (wire_at (wires_of g) place) = of_out g (limited parts is.accepted) place inside in
      let by : IsSentBy r b.channels (wire_at (wires_of g) place) m = is.carries.sent to m has in
      let w = wire_at (wires_of g) place in
      let p = source.port in
      let start =
      by_start g trace (order_of r.log) s handling w.port p source.there by.sender
      (has_numbered (messages_at s w.port) m.number by.sender (known_first g trace is.can.can s r is.running.interleaves w.port m.number by.sender by.there)) in
      let rates = rated g trace (order_of r.log) s handling w.port p source.there in
      let reach : reach_of g p w.out ≤ 4000000 = rates.outs.reach w.out source.inside.0 source.inside.1 in
      let period : w.period ≡ within_of g p = source.timed.period in
      let sends : w.sends ≡ greatest_sends p w.out = source.sends in
      let few = by.few in
      let time = by.time in
      let span : by.place * w.gap ≡ by.place * gap_of g p w.out = ap (λ (n : ℕ). by.place * n) source.timed.gap in
      let less : by.place * gap_of g p w.out ≤ (greatest_sends p w.out - 1) * gap_of g p w.out = mul-le by.place (gap_of g p w.out) (greatest_sends p w.out - 1) (gap_of g p w.out) (omega arith) (omega arith) in
      omega arith

  pub runs_early : (entry : Entry) → Contains moment.entries entry → moment.clock < most_deadline
  runs_early entry has =
      let g = graph_in parts in
      let before = executives_follow.in_time g trace is.can s r due plan lines is.running moment (left_at b) is.executes entry has in
      let o = is.executes.stands.only entry has in
      let z = o.0 in
      let k = is.running.goes.known z o.1 in
      let p = known_port g trace is.can.can s r is.running.interleaves z.job.task z.job.number k.0 k.1 in
      let arrival : entry.arrival ≡ z.arrival = ap (λ (x : Entry). x.arrival) o.3 in
      let time = k.2 in
      let start =
      by_start g trace (order_of r.log) s handling z.job.task p.0 p.1 k.0
      (has_numbered (messages_at s z.job.task) z.job.number k.0 (known_first g trace is.can.can s r is.running.interleaves z.job.task z.job.number k.0 k.1)) in
      let rates = rated g trace (order_of r.log) s handling z.job.task p.0 p.1 in
      let first = rates.start in
      let period = rates.period in
      let task : within (task_in moment.tasks (job_in entry)) ≡ within_of g p.0 =
      ap (λ (ts : List Task). within (task_in ts (job_in entry))) is.executes.tasks ∙ ap (λ (x : Entry). within (task_in (tasks_of g) (job_in x))) o.3 ∙ ap within (port_task g z.job.task p.0 p.1).2 in
      omega arith

  -- the end
  module _ (idle : moment.entries ≡ []) (none : (m : Pending) → Waits b.channels m → ⊥) (taken : ℕ) (read : IsReadTo (graph_in parts) trace due taken) (all : length trace ≤ taken) where
    come : AllReleased r due × AllShown r due
    come =
        bodies_rest.all_come parts trace is.can.can s r is.running.interleaves due b is.carries none
        (λ k x at fed. let inside = slice_get_within trace k x at in read.before k x at fed (omega arith))

    handled : AllKnownHandled (graph_in parts) s r
    handled = executives_follow.over (graph_in parts) trace is.can s r due plan lines is.running is.from is.to come.0 moment (left_at b) is.executes.stands idle

    -- no message of a port comes now, since its job would wait
    none_at_port : (port n : ℕ) (m : PortMessage) → numbered (known_at r port) n ≡ Some m → m.time ≡ length r.log → ⊥
    none_at_port port n m there now =
        let g = graph_in parts in
        let on_time = runs_are_on_time.on_time g trace is.can s r due plan lines is.running is.from in
        let next = (runs_are_on_time.port_free g trace is.can s r is.running.interleaves on_time port n m there now).0 in
        let p = known_port g trace is.can.can s r is.running.interleaves port n m there in
        let inside = numbered_within g.ports port p.0 p.1 in
        let whole = handled.all port inside.0 inside.1 in
        let last = (numbered_within (known_at r port) n m there).1 in
        omega arith

    -- one that comes to an output now is told
    told_now : (n k : ℕ) (m : PortMessage) → slice_get (messages_to r.outputs n) k ≡ Some m → m.time ≡ length r.log → length r.log ≡ max (busy_until r.log (length r.log)) (latest lines)
    told_now n k m at now =
        let line : OutLine = record { time = m.time; output = n; values = m.values } in
        let has = before_shown n due (messages_to r.outputs n) k m at (come.1 n k m at) in
        let there : Has lines line = lines_back n lines line (subst (λ (ls : List OutLine). Has ls line) (sym (is.running.shown.each n)) has) in
        runs_end.shown (graph_in parts) trace s r due plan lines is.running is.to line there now

    long : HasCause r → length r.log ≡ max (busy_until r.log (length r.log)) (latest lines)
    long cause =
        ⊎_elim
        (λ (empty : r.log ≡ []). runs_end.none (graph_in parts) trace s r due plan lines is.running is.to empty)
        (λ (other : EndsWithJob r.log ⊎ ComesAt r (length r.log)).
        ⊎_elim
        (λ (busy : EndsWithJob r.log). runs_end.busy (graph_in parts) trace s r due plan lines is.running is.to busy.0 busy.1 busy.2)
        (λ (now : ComesAt r (length r.log)).
        ⊎_elim
        (λ (p : (port n : ℕ) × (m : PortMessage) × (numbered (known_at r port) n ≡ Some m) × (m.time ≡ length r.log)). absurd (none_at_port p.0 p.1 p.2 p.3 p.4))
        (λ (o : (n k : ℕ) × (m : PortMessage) × (slice_get (messages_to r.outputs n) k ≡ Some m) × (m.time ≡ length r.log)). told_now o.0 o.1 o.2 o.3 o.4)
        now)
        other)
        cause

    pub ends : HasCause r → IsPromisedRun (graph_in parts) trace r.log lines
    ends cause = runs_go_on.ends (graph_in parts) trace is.can s r due plan lines is.running handled come.1 (long cause)
