-- Logs that keep their deadlines end with the last deadline of their plan.
use Rattle.std.proofs.Common.{◌≡◌, ℕ, ◌<◌, ◌≤◌, List, [], ◌∷◌, length, Option, None, Some, refl, ap, subst, inl, inr, ⊎_elim, arith, zero-le}
use Rattle.std.proofs.lemmas.Bool.{cases_lt}
use Rattle.std.specs.Option.{option_map_or}
use Rattle.yt_graph.specs.Picture.{GraphTree}
use Rattle.yt_set.specs.declared.task.Task.{Task}
use Rattle.yt_set.specs.Tasks.{IsTask, IsTaskSet}
use Rattle.yt_log.specs.declared.job.Job.{Job}
use Rattle.yt_log.specs.declared.plan.PlanItem.{PlanItem}
use Rattle.yt_log.specs.Limits.{most_arrival}
use Rattle.yt_log.specs.Plan.{its_task, deadline_of, IsLegalPlan}
use Rattle.yt_log.specs.Tasks.{Has}
use Rattle.yt_log.specs.Ticks.{Ticks, tick, IsLawful, KeepsDeadlines}
use Rattle.yt_log.proofs.Lemmas.{below_end, deadline_is, done_grows, good_item, has_all, has_sorted, has_task}
use Rattle.yt_rates.specs.Tables.{tasks_of}
use Rattle.yt_serial.specs.declared.shown.OutLine.{OutLine}
use Rattle.yt_trace.specs.declared.message.Message.{Message}
use Rattle.yt_serial.specs.Beginnings.{busy_until, order_of}
use Rattle.yt_serial.specs.Premises.{IsHandling}
use Rattle.yt_serial.specs.SerialHandling.{Serial, plan_of, plan_of_log}
use Rattle.yt_serial.specs.Told.{latest, line_before}
use Rattle.yt_serial.proofs.Lemmas.{busy_until_le, port_task}
use Rattle.yt_schedule_laws.specs.InTime.{LogsEnd, RunsEnd}
use Rattle.yt_log.specs.Limits.{most_deadline}
use Rattle.yt_schedule_laws.proofs.InTime.{line_within, of_port, rated}

module _ (tasks : List Task) (plan : List PlanItem) (bound : ℕ) (due : (i : PlanItem) → Has plan i → deadline_of tasks i ≤ bound)
    (log : Ticks) (lawful : IsLawful plan log) (keeps : KeepsDeadlines tasks plan log (length log)) where
  -- a tick that goes to a job comes before the job's deadline
  before_bound : (t : ℕ) (job : Job) → tick log t ≡ Some job → t < bound
  before_bound t job e =
      let w = lawful t job e in
      let i = w.0 in
      let late = due w.0 w.1 in
      let inside = below_end log t job e in
      let left = w.3.unfinished in
      ⊎_elim
      (λ (lt : t < deadline_of tasks i). omega arith)
      (λ (ge : deadline_of tasks i ≤ t).
      let at = keeps i w.1 (omega arith) in
      let more = done_grows log i.job (deadline_of tasks i) t ge in
      absurd (omega arith))
      (cases_lt t (deadline_of tasks i))

  -- so the ticks from the last deadline on are idle
  idle_from : (t : ℕ) → bound ≤ t → tick log t ≡ None
  idle_from t le = by (tick log t) refl
    where
      by : (o : Option Job) → tick log t ≡ o → tick log t ≡ None
      by None e = e
      by (Some job) e = let lt = before_bound t job e in absurd (omega arith)

  ends_by : busy_until log (length log) ≤ bound
  ends_by = busy_until_le log bound (length log) idle_from

-- when the jobs of a plan are due
due_by : (tasks : List Task) → IsTaskSet tasks → (plan : List PlanItem) → IsLegalPlan tasks plan → (i : PlanItem) → Has plan i → deadline_of tasks i ≤ most_deadline
due_by tasks set plan legal i is =
    let arrives = has_all (λ (z : PlanItem). z.arrival ≤ most_arrival) plan legal.early i is in
    let good = good_item tasks plan legal.legal i is in
    let task = has_all IsTask tasks set.1 (its_task tasks i) (has_task tasks i.job.task good.from_one good.in_set) in
    let period = task.3 in
    let d = deadline_is tasks i in
    omega arith

port_due_by : (g : GraphTree) (trace : List Message) (order : List Job) (s : Serial) → IsHandling g trace order s → (i : PlanItem) → Has (plan_of s) i → deadline_of (tasks_of g) i ≤ most_deadline
port_due_by g trace order s is i has =
    let p = of_port g trace order s is i has in
    let arrives = p.arrives in
    let most = (rated g trace order s is i.job.task p.port p.there).period in
    let period = ap (λ (k : Task). k.period) (port_task g i.job.task p.port p.there).2 in
    let d = deadline_is (tasks_of g) i in
    omega arith

handling_ends : (g : GraphTree) (trace : List Message) (order : List Job) (s : Serial) → IsHandling g trace order s →
    (log : Ticks) → IsLawful (plan_of s) log → KeepsDeadlines (tasks_of g) (plan_of s) log (length log) → busy_until log (length log) ≤ most_deadline
handling_ends g trace order s is log lawful keeps = ends_by (tasks_of g) (plan_of s) most_deadline (port_due_by g trace order s is) log lawful keeps

pub logs_end : LogsEnd
logs_end = record {
  plan = λ tasks set plan legal log lawful keeps. ends_by tasks plan most_deadline (due_by tasks set plan legal) log lawful keeps;
  handling = handling_ends;
}

latest_by : (lines : List OutLine) (bound : ℕ) → ((l : OutLine) → Has lines l → l.time ≤ bound) → latest lines ≤ bound
latest_by [] bound by = zero-le
latest_by (x ∷ lines) bound by = let a = by x (inl refl) in let r = latest_by lines bound (λ l is. by l (inr is)) in omega arith

pub runs_end : RunsEnd
runs_end g trace can log lines p =
    let s = p.tells.serial in
    let is : IsHandling g trace (order_of log) p.tells.serial = record { can = can; along = p.tells.along } in
    let same : plan_of_log g trace log ≡ plan_of s = ap (λ (o : Option Serial). option_map_or plan_of o []) p.tells.along in
    let lawful = subst (λ (plan : List PlanItem). IsLawful plan log) same p.tells.lawful in
    let keeps = subst (λ (plan : List PlanItem). KeepsDeadlines (tasks_of g) plan log (length log)) same (p.deadlines (length log)) in
    let busy = handling_ends g trace (order_of log) p.tells.serial is log lawful keeps in
    let shown : (l : OutLine) → Has lines l → l.time ≤ most_deadline = λ l has.
    let by = line_within g trace (order_of log) p.tells.serial is l (has_sorted line_before s.lines l (subst (λ (ls : List OutLine). Has ls l) p.tells.shown has)) in
    omega arith in
    let last = latest_by lines most_deadline shown in
    let ends = p.tells.ends in
    omega arith
