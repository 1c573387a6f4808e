-- A run goes on through each kind of tick, and comes to what is promised.
use Rattle.std.proofs.Common.{◌≡◌, ℕ, suc, ◌+◌, ◌<◌, ◌≤◌, max, List, [], ◌∷◌, ◌++◌, length, replicate, Option, None, Some, refl, sym, ap, subst, ◌∙◌, ⊎_elim, arith}
use Rattle.std.specs.Option.{unwrap_or}
use Rattle.std.proofs.lemmas.Bool.{cases_eq, cases_lt}
use Rattle.yt_graph.specs.Picture.{GraphTree, PortTree}
use Rattle.yt_log.specs.declared.job.Job.{Job}
use Rattle.yt_log.specs.declared.plan.PlanItem.{PlanItem}
use Rattle.yt_log.specs.Tasks.{Has, task_of}
use Rattle.yt_log.specs.Plan.{its_task}
use Rattle.yt_log.specs.Ticks.{done, IsActive}
use Rattle.yt_log.proofs.Lemmas.{chosen}
use Rattle.yt_log.proofs.Lemmas.{rule_is_safe}
use Rattle.yt_log.proofs.Lemmas.{done_yes, done_grows}
use Rattle.yt_exec.specs.StandsFor.{with_cost}
use Rattle.yt_rates.specs.Rates.{period_of}
use Rattle.yt_rates.specs.Tables.{tasks_of}
use Rattle.yt_serial.specs.declared.shown.OutLine.{OutLine}
use Rattle.yt_trace.specs.declared.message.Message.{Message}
use Rattle.yt_serial.specs.Beginnings.{order_of, busy_until}
use Rattle.yt_serial.specs.PortMessages.{PortMessage}
use Rattle.yt_list.specs.Numbered.{numbered}
use Rattle.yt_serial.specs.SerialHandling.{Serial, shown, start, handle_message}
use Rattle.yt_graph.specs.Labels.{no_port}
use Rattle.yt_serial.specs.Told.{latest, IsPromisedRun}
use Rattle.yt_serial.proofs.Lemmas.{port_there, length_push, tick_last, done_before, lines_hold}
use Rattle.yt_interleave.specs.Interleaved.{ActiveJob, RunState, port_at, group_at, known_at, whole_of, item_of, first_state, with_begun, with_tick, with_idle, with_idles}
use Rattle.yt_serial.specs.Lines.{lines_of}
use Rattle.yt_interleave.specs.Lines.{come_before, HasShown, KnowsLines}
use Rattle.yt_interleave.specs.Moves.{MayBegin, after_tick, active_job, Interleaves, AllKnownHandled, IsResourceFree}
use Rattle.yt_serial.specs.Premises.{IsSchedulable}
use Rattle.yt_interleave.specs.Runs.{IsRunning, AreReleased, AreShownNow, AllShown, RunsGoOn, RunsAreOnTime}
use Rattle.yt_interleave.specs.Timing.{HasEnded, IsOnTime, WaitsToBegin, IsPlanOfRun, IsRuleLog}
use Rattle.yt_interleave.specs.Waits.{NoneComesBefore}
use Rattle.yt_interleave.proofs.Executives.{group_is}
use Rattle.yt_interleave.proofs.Idling.{idles_keep_serial, idles_plan, idles_shown}
use Rattle.yt_interleave.proofs.Plans as plans
use Rattle.yt_interleave.proofs.Promised.{ends_are_promised}
use Rattle.yt_interleave.proofs.Shown.{shows, still_shown, all_are_shown, knows_begun, before_late}
use Rattle.yt_interleave.proofs.Steps.{after_last, after_other, starts_serial, begins_keep_serial, ticks_keep_serial, idling_keeps_serial}
use Rattle.yt_interleave.proofs.Timing as timing

pub grows : (g : GraphTree) (b : ActiveJob) (r : RunState) → (after_tick g b r).log ≡ r.log ++ Some b.job ∷ []
grows g b r =
    ⊎_elim
    (λ (e : done r.log b.job (length r.log) + 1 ≡ (whole_of g b).ticks). ap (λ (x : RunState). x.log) (after_last g b r e))
    (λ (ne : done r.log b.job (length r.log) + 1 ≡ (whole_of g b).ticks → ⊥). ap (λ (x : RunState). x.log) (after_other g b r ne))
    (cases_eq (done r.log b.job (length r.log) + 1) (whole_of g b).ticks)

-- what was shown stays shown through a tick
shown_after : (g : GraphTree) (s : Serial) (r : RunState) (b : ActiveJob) (t : ℕ) (lines : List OutLine) → KnowsLines g s r → t ≤ b.message.time + period_of g (port_at g b.job.task) → HasShown r t lines → HasShown (after_tick g b r) t lines
shown_after g s r b t lines knows deadline has =
    let ticked : HasShown (with_tick g b r) t lines = record { order = has.order; each = has.each } in
    ⊎_elim
    (λ (e : done r.log b.job (length r.log) + 1 ≡ (whole_of g b).ticks).
    subst (λ (x : RunState). HasShown x t lines) (sym (after_last g b r e)) (still_shown g (with_tick g b r) knows.count b t lines deadline ticked))
    (λ (ne : done r.log b.job (length r.log) + 1 ≡ (whole_of g b).ticks → ⊥).
    subst (λ (x : RunState). HasShown x t lines) (sym (after_other g b r ne)) ticked)
    (cases_eq (done r.log b.job (length r.log) + 1) (whole_of g b).ticks)

module _ (g : GraphTree) (trace : List Message) (able : IsSchedulable g trace) (s : Serial) (r : RunState) where
  pub on_time : (due : ℕ) (plan : List PlanItem) (lines : List OutLine) → IsRunning g trace s r due plan lines → length r.log ≤ due → IsOnTime g s r
  on_time due plan lines is le =
      timing.on_time_from g trace able.can s r is.interleaves plan due is.goes le is.by.legal (able.keeps plan is.by.legal r.log is.by.rule)

  before : IsOnTime g s r → (port n : ℕ) (p : PortTree) (m : PortMessage) → numbered g.ports port ≡ Some p → numbered (known_at r port) n ≡ Some m → (HasEnded s r port n → ⊥) → length r.log < m.time + period_of g p
  before timely port n p m is_port there not_ended =
      ⊎_elim
      (λ (lt : length r.log < m.time + period_of g p). lt)
      (λ (ge : m.time + period_of g p ≤ length r.log). absurd (not_ended (timely port n p m is_port there ge)))
      (cases_lt (length r.log) (m.time + period_of g p))

  -- the next tick of a job that may begin is before its deadline
  pending_before : Interleaves g trace s r → IsOnTime g s r → (job : Job) (m : PortMessage) → MayBegin g s r job m → length r.log < m.time + period_of g (port_at g job.task)
  pending_before is timely job m may =
      let p = timing.known_port g trace able.can s r is job.task job.number m may.there in
      let h = before timely job.task job.number p.0 m p.1 may.there (λ e. let a = e.handled in let b = may.number in absurd (omega arith)) in
      subst (λ (q : PortTree). length r.log < m.time + period_of g q) (sym (ap (λ (o : Option PortTree). unwrap_or o no_port) p.1)) h

  -- so is that of a job that is active
  pub active_before : Interleaves g trace s r → IsOnTime g s r → (port : ℕ) (b : ActiveJob) → r.active port ≡ Some b → length r.log < b.message.time + period_of g (port_at g b.job.task)
  active_before is timely port b at_port =
      let u = is.stands.under_way port b at_port in
      let holds = timing.serial g trace able.can s r is in
      let q = port_there g.ports s.messages port b.job.number b.message holds.long u.there in
      ⊎_elim
      (λ (lt : length r.log < b.message.time + period_of g q.0).
      subst (λ (x : PortTree). length r.log < b.message.time + period_of g x) (sym (ap (λ (t : ℕ). port_at g t) u.task ∙ ap (λ (o : Option PortTree). unwrap_or o no_port) q.1)) lt)
      (λ (ge : b.message.time + period_of g q.0 ≤ length r.log).
      absurd ((timely port b.job.number q.0 b.message q.1 (is.stands.known port b at_port) ge).not_active b at_port refl))
      (cases_lt (length r.log) (b.message.time + period_of g q.0))

-- the rule gives no tick to a job whose resource another job has that is active
resource_free : (g : GraphTree) (trace : List Message) → IsSchedulable g trace → (s : Serial) (r : RunState) (due : ℕ) (plan : List PlanItem) (lines : List OutLine)
    → IsRunning g trace s r due plan lines → (job : Job) (m : PortMessage) → WaitsToBegin r job m
    → (cost : ℕ) → IsRuleLog g (with_cost job cost plan) (r.log ++ Some job ∷ []) → IsResourceFree g r job.task
resource_free g trace able s r due plan lines is job m pending c by port b at_port some same =
    let tasks = tasks_of g in
    let log = r.log ++ Some job ∷ [] in
    let other = with_cost job c plan in
    let n = length r.log in
    let u = is.interleaves.stands.under_way port b at_port in
    let begun = is.interleaves.begun port b at_port in
    let unfinished = is.interleaves.unfinished port b at_port in
    let none = pending.fresh in
    let differ : b.job ≡ job → ⊥ = λ e. let q : done r.log b.job n ≡ done r.log job n = ap (λ (j : Job). done r.log j n) e in absurd (omega arith) in
    let there : Has other (item_of g b) = plans.with_other job c plan (item_of g b) differ (is.goes.begun (item_of g b) u.item) in
    let here = chosen tasks other log by.rule n job (tick_last r.log (Some job)) in
    let z = here.0 in
    let long = length_push r.log (Some job) in
    let safe = rule_is_safe tasks other by.legal log by.rule in
    let old = done_before r.log (Some job) b.job n (omega arith) in
    let ran : done log z.job (suc n) ≡ suc (done log z.job n) = done_yes log z.job n (tick_last r.log (Some job) ∙ ap (λ (j : Job). Some j) (sym here.1)) in
    let grown = done_grows log b.job n (suc n) (omega arith) in
    let active_b : IsActive log n (item_of g b) = record { begun = omega arith; unfinished = omega arith } in
    let active_z : IsActive log n z = record { begun = omega arith; unfinished = here.2.waiting.unfinished } in
    let group_b : (its_task tasks (item_of g b)).resource ≡ group_at g port = ap (λ (t : ℕ). (task_of tasks t).resource) u.task ∙ sym (group_is g port) in
    let group_z : (its_task tasks z).resource ≡ group_at g job.task = ap (λ (j : Job). (task_of tasks j.task).resource) here.1 ∙ sym (group_is g job.task) in
    differ (safe.exclusive n (omega arith) (item_of g b) z there here.2.has (omega arith) (group_b ∙ same ∙ sym group_z) active_b active_z ∙ here.1)

pub runs_are_on_time : RunsAreOnTime
runs_are_on_time = record {
  on_time = λ g trace able s r due plan lines is le. on_time g trace able s r due plan lines is le;
  may_begin = λ g trace able s r is timely job m pending free. timing.may_begin g trace able.can s r is timely job m pending free;
  free = λ g trace able s r due plan lines is job m pending cost by. resource_free g trace able s r due plan lines is job m pending cost by;
  port_free = λ g trace able s r is timely port n m there now. timing.port_free g trace able.can s r is timely port n m there now;
  held = λ g trace able s r is timely port n k m x there not_ended other come. timing.held g trace able.can s r is timely port n k m x there not_ended other come;
  before_deadline = λ g trace able s r is timely port n p m is_port there not_ended. before g trace able s r timely port n p m is_port there not_ended;
}

none_before : (n : ℕ) (ms : List PortMessage) → lines_of n [] ≡ shown n (come_before 0 ms)
none_before n ms = sym (ap (shown n) (before_late 0 ms (λ k x h. omega arith)))

starts : (g : GraphTree) (trace : List Message) → IsSchedulable g trace → IsRunning g trace (start g trace) (first_state g trace) 0 [] []
starts g trace able = record {
  interleaves = starts_serial g trace able.can;
  goes = record { begun = λ z has. absurd has; known = λ z has. absurd has; early = λ z has. absurd has; all = λ port n m there lt. absurd (omega arith) };
  by = record { legal = tt; rule = λ t lt. absurd (omega arith) };
  shown = record { order = tt; each = λ n. none_before n (unwrap_or (numbered (first_state g trace).outputs n) []) };
}

places : (g : GraphTree) (trace : List Message) → IsSchedulable g trace → (s : Serial) (r : RunState) (plan : List PlanItem) (lines : List OutLine)
    → IsRunning g trace s r (length r.log) plan lines → (new : List PlanItem) (more : List OutLine) → AreReleased r new → AreShownNow r more
    → IsRuleLog g (plan ++ new) r.log → IsRunning g trace s r (suc (length r.log)) (plan ++ new) (lines ++ more)
places g trace able s r plan lines is new more released show by = record {
  interleaves = is.interleaves;
  goes = plans.releases s r plan new is.goes released.known released.now released.all;
  by = by;
  shown =
      let hold = lines_hold g able.can.well_formed able.can.rates trace able.can.keeps (order_of r.log) s is.interleaves.stands.along in
      shows g s r is.interleaves.lines hold (length r.log) lines more is.shown show.order show.times show.each;
}

begins : (g : GraphTree) (trace : List Message) → IsSchedulable g trace → (s : Serial) (r : RunState) (plan : List PlanItem) (lines : List OutLine)
    → IsRunning g trace s r (suc (length r.log)) plan lines → (job : Job) (m : PortMessage) → WaitsToBegin r job m
    → IsRuleLog g (with_cost job (whole_of g (active_job job m s)).ticks plan) (r.log ++ Some job ∷ [])
    → IsRunning g trace (handle_message g job m s) (after_tick g (active_job job m s) (with_begun job m s.vars r)) (suc (length r.log))
    (with_cost job (whole_of g (active_job job m s)).ticks plan) lines
begins g trace able s r plan lines is job m pending by =
    let free = resource_free g trace able s r (suc (length r.log)) plan lines is job m pending (whole_of g (active_job job m s)).ticks by in
    let timely = on_time g trace able s r (suc (length r.log)) plan lines is (omega arith) in
    let may = timing.may_begin g trace able.can s r is.interleaves timely job m pending free in
    let deadline = pending_before g trace able s r is.interleaves timely job m may in
    let b = active_job job m s in
    let r1 = with_begun job m s.vars r in
    let s1 = handle_message g job m s in
    let next = begins_keep_serial g trace able.can s r is.interleaves job m may in
    let log : (after_tick g b r1).log ≡ r.log ++ Some job ∷ [] = grows g b r1 in
    let long : length (after_tick g b r1).log ≡ suc (length r.log) = ap length log ∙ length_push r.log (Some job) in
    let goes1 = plans.begins g trace able.can s r is.interleaves job m may plan (suc (length r.log)) is.goes (omega arith) in
    let goes2 = plans.ticks g b r1 is.interleaves.stands.long deadline s1 (with_cost job (whole_of g b).ticks plan) goes1 in
    let knows = knows_begun g s r job m may.idle is.interleaves.lines in
    record {
      interleaves = next;
      goes = subst (λ (n : ℕ). IsPlanOfRun s1 (after_tick g b r1) n (with_cost job (whole_of g b).ticks plan)) long goes2;
      by = subst (IsRuleLog g (with_cost job (whole_of g b).ticks plan)) (sym log) by;
      shown = shown_after g s1 r1 b (suc (length r.log)) lines knows deadline (record { order = is.shown.order; each = is.shown.each });
    }

ticks : (g : GraphTree) (trace : List Message) → IsSchedulable g trace → (s : Serial) (r : RunState) (plan : List PlanItem) (lines : List OutLine)
    → IsRunning g trace s r (suc (length r.log)) plan lines → (port : ℕ) (b : ActiveJob) → r.active port ≡ Some b
    → IsRuleLog g plan (r.log ++ Some b.job ∷ []) → IsRunning g trace s (after_tick g b r) (suc (length r.log)) plan lines
ticks g trace able s r plan lines is port b at_port by =
    let timely = on_time g trace able s r (suc (length r.log)) plan lines is (omega arith) in
    let deadline = active_before g trace able s r is.interleaves timely port b at_port in
    let log = grows g b r in
    let long : length (after_tick g b r).log ≡ suc (length r.log) = ap length log ∙ length_push r.log (Some b.job) in
    record {
      interleaves = ticks_keep_serial g trace able.can s r is.interleaves port b at_port;
      goes = subst (λ (n : ℕ). IsPlanOfRun s (after_tick g b r) n plan) long (plans.ticks g b r is.interleaves.stands.long deadline s plan is.goes);
      by = subst (IsRuleLog g plan) (sym log) by;
      shown = shown_after g s r b (suc (length r.log)) lines is.interleaves.lines deadline is.shown;
    }

idles : (g : GraphTree) (trace : List Message) → IsSchedulable g trace → (s : Serial) (r : RunState) (plan : List PlanItem) (lines : List OutLine)
    → IsRunning g trace s r (suc (length r.log)) plan lines
    → IsRuleLog g plan (r.log ++ None ∷ []) → IsRunning g trace s (with_idle r) (suc (length r.log)) plan lines
idles g trace able s r plan lines is by = record {
  interleaves = idling_keeps_serial g trace able.can s r is.interleaves;
  goes = subst (λ (n : ℕ). IsPlanOfRun s (with_idle r) n plan) (length_push r.log None) (plans.idles s r plan is.goes);
  by = by;
  shown = record { order = is.shown.order; each = is.shown.each };
}

idles_on : (g : GraphTree) (trace : List Message) → IsSchedulable g trace → (s : Serial) (r : RunState) (due : ℕ) (plan : List PlanItem) (lines : List OutLine)
    → IsRunning g trace s r due plan lines → (count : ℕ) → due ≤ length r.log + count → NoneComesBefore r due (length r.log + count)
    → IsRuleLog g plan (r.log ++ replicate count None) → IsRunning g trace s (with_idles count r) (length r.log + count) plan lines
idles_on g trace able s r due plan lines is count le none by = record {
  interleaves = idles_keep_serial g trace able.can s count r is.interleaves;
  goes = idles_plan r due (length r.log + count) le none s count plan is.goes;
  by = by;
  shown = idles_shown r due (length r.log + count) le none count lines is.shown;
}

ends : (g : GraphTree) (trace : List Message) → IsSchedulable g trace → (s : Serial) (r : RunState) (due : ℕ) (plan : List PlanItem) (lines : List OutLine)
    → IsRunning g trace s r due plan lines → AllKnownHandled g s r → AllShown r due → length r.log ≡ max (busy_until r.log (length r.log)) (latest lines) → IsPromisedRun g trace r.log lines
ends g trace able s r due plan lines is over come end =
    let hold = lines_hold g able.can.well_formed able.can.rates trace able.can.keeps (order_of r.log) s is.interleaves.stands.along in
    ends_are_promised g trace able s r is.interleaves over plan due is.goes is.by lines
    (record { shown = all_are_shown g s r is.interleaves.lines hold over.none due lines is.shown come; ends = end })

pub runs_go_on : RunsGoOn
runs_go_on = record {
  starts = starts;
  places = places;
  begins = begins;
  ticks = ticks;
  idles = idles;
  idles_on = idles_on;
  grows = grows;
  ends = ends;
}
