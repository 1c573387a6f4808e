-- The rules of a run are all that is promised of it.
use Rattle.std.proofs.Common.{◌≡◌, ℕ, suc, ◌<◌, ◌≤◌, List, [], ◌∷◌, ◌++◌, length, Some, sym, ap, subst, ◌∙◌, ⊎_elim, arith}
use Rattle.std.proofs.lemmas.Bool.{cases_lt}
use Rattle.std.proofs.lemmas.Option.{option_and_then_some}
use Rattle.yt_graph.specs.Picture.{GraphTree}
use Rattle.yt_set.specs.declared.task.Task.{Task}
use Rattle.yt_log.specs.declared.job.Job.{Job}
use Rattle.yt_log.specs.declared.plan.PlanItem.{PlanItem}
use Rattle.yt_log.specs.Plan.{deadline_of, IsLegal}
use Rattle.yt_log.specs.Tasks.{Has}
use Rattle.yt_log.specs.Ticks.{Ticks, done, first_tick, KeepsDeadlines}
use Rattle.yt_log.proofs.Lemmas.{jobs_none}
use Rattle.yt_log.proofs.Lemmas.{deadline_is}
use Rattle.yt_log.proofs.Lemmas.{rule_is_safe}
use Rattle.yt_log.proofs.Lemmas.{good_item}
use Rattle.yt_log.proofs.Lemmas.{capped}
use Rattle.yt_log.proofs.Lemmas.{done_grows, first_is, first_stays}
use Rattle.yt_rates.specs.Rates.{period_of}
use Rattle.yt_rates.specs.Tables.{tasks_of}
use Rattle.yt_serial.specs.declared.shown.OutLine.{OutLine}
use Rattle.yt_trace.specs.declared.message.Message.{Message}
use Rattle.yt_serial.specs.Beginnings.{begun_below, order_of}
use Rattle.yt_serial.specs.RunRules.{MeetsRunRules, RunRulesAreExact}
use Rattle.yt_serial.specs.Premises.{IsSchedulable}
use Rattle.yt_list.specs.Numbered.{numbered}
use Rattle.yt_serial.specs.SerialHandling.{Serial, messages_at, items_of, handled_of, start, serial_step, serial_run, plan_of_log}
use Rattle.yt_serial.specs.Told.{IsPromisedRun, NoneReplaced}
use Rattle.yt_serial.proofs.Done.{begun_fresh}
use Rattle.yt_serial.proofs.Orders.{begun_done}
use Rattle.yt_serial.proofs.SerialInvariant.{Holds, port_task}
use Rattle.yt_serial.proofs.SerialLaws.{log_plans_are_legal}
use Rattle.yt_serial.proofs.SerialRuns.{serial_holds, stepped}
use Rattle.yt_serial.proofs.SerialStates.{message_there, port_there}
use Rattle.yt_serial.proofs.SerialSteps.{at_tick, from_start, in_items, run_rest}
use Rattle.yt_serial.proofs.Spread.{numbered_apart, numbered_within}
use Rattle.yt_serial.proofs.Unique.{runs_are_one}

module _ (g : GraphTree) (trace : List Message) (able : IsSchedulable g trace) (log : Ticks) (lines : List OutLine) (is : MeetsRunRules g trace log lines) where
  abbrev plan : List PlanItem
  plan = plan_of_log g trace log

  legal : IsLegal (tasks_of g) (plan_of_log g trace log)
  legal = log_plans_are_legal g trace log able.can

  holds : Holds g is.serial
  holds = serial_holds g able.can.well_formed able.can.rates trace able.can.keeps (order_of log) is.serial is.along

  item_in : (z : PlanItem) → Has (plan_of_log g trace log) z → Has (items_of is.serial) z
  item_in z has = in_items g trace able.can log is.serial is.along z has

  -- the later one of two jobs of a port arrives at the deadline of the earlier one or after it
  due_before : (a b : PlanItem) → Has (plan_of_log g trace log) a → Has (plan_of_log g trace log) b → a.job.task ≡ b.job.task → a.job.number < b.job.number
      → deadline_of (tasks_of g) a ≤ b.arrival
  due_before a b has_a has_b task lt =
      let x = holds.items a (item_in a has_a) in
      let y = holds.items b (item_in b has_b) in
      let p = port_there g.ports is.serial.messages a.job.task a.job.number x.message holds.long x.there in
      let there : numbered (messages_at is.serial a.job.task) b.job.number ≡ Some y.message = ap (λ (t : ℕ). numbered (messages_at is.serial t) b.job.number) task ∙ y.there in
      let far = numbered_apart (period_of g p.0) (messages_at is.serial a.job.task) (holds.spread a.job.task p.0 p.1) a.job.number b.job.number x.message y.message x.there there lt in
      let t = port_task g a.job.task p.0 p.1 in
      let period = ap (λ (k : Task). k.period) t.2 in
      let d = deadline_is (tasks_of g) a in
      let e = x.arrival in
      let f = y.arrival in
      omega arith

  met : (h : ℕ) → KeepsDeadlines (tasks_of g) (plan_of_log g trace log) log h
  met h z has le =
      let most = capped (tasks_of g) (plan_of_log g trace log) legal log is.rule z has (deadline_of (tasks_of g) z) in
      ⊎_elim
      (λ (lt : length log < deadline_of (tasks_of g) z).
      let fin = is.finished z has in
      let more = done_grows log z.job (length log) (deadline_of (tasks_of g) z) (omega arith) in
      omega arith)
      (λ (ge : deadline_of (tasks_of g) z ≤ length log). able.keeps (plan_of_log g trace log) legal log is.rule z has ge)
      (cases_lt (length log) (deadline_of (tasks_of g) z))

  replaced : NoneReplaced (plan_of_log g trace log) log
  replaced a b has_a has_b task next =
      let late = due_before a b has_a has_b task (omega arith) in
      let at = met (deadline_of (tasks_of g) a) a has_a (omega arith) in
      let more = done_grows log a.job (deadline_of (tasks_of g) a) b.arrival late in
      let most = capped (tasks_of g) (plan_of_log g trace log) legal log is.rule a has_a b.arrival in
      omega arith

  begun : (z : PlanItem) → Has (plan_of_log g trace log) z → 0 < done log z.job (length log)
  begun z has =
      let fin = is.finished z has in
      let cost = (good_item (tasks_of g) (plan_of_log g trace log) legal z has).some in
      omega arith

  -- when a job begins, the earlier ones of its port have begun
  in_turn : (a b : PlanItem) → Has (plan_of_log g trace log) a → Has (plan_of_log g trace log) b → a.job.task ≡ b.job.task → a.job.number < b.job.number
      → first_tick log a.job (length log) < first_tick log b.job (length log)
  in_turn a b has_a has_b task lt =
      let t = first_tick log b.job (length log) in
      let first = first_is log b.job (length log) (begun b has_b) in
      let below = first.below in
      let now = at_tick g trace able.can log is.serial is.along t (omega arith) in
      let next = at_tick g trace able.can log is.serial is.along (suc t) (omega arith) in
      let order : begun_below log (suc t) ≡ begun_below log t ++ b.job ∷ [] = begun_fresh log b.job t first.names first.fresh in
      let step : serial_run g (b.job ∷ []) now.now ≡ Some next.now =
      run_rest g (begun_below log t) (b.job ∷ []) (start g trace) now.now next.now now.along (ap (λ (o : List Job). serial_run g o (start g trace)) (sym order) ∙ next.along) in
      let number = number_of b.job now.now next.now step in
      let count : handled_of now.now b.job.task ≡ handled_of now.now a.job.task = ap (handled_of now.now) (sym task) in
      let from = from_start g trace able.can (begun_below log t) now.now now.along in
      let some = (numbered_within (messages_at is.serial a.job.task) a.job.number (holds.items a (item_in a has_a)).message (holds.items a (item_in a has_a)).there).0 in
      let z = from.numbers (λ p k one le. absurd (let n = jobs_none p in omega arith)) a.job.task a.job.number some (omega arith) in
      let has : Has (begun_below log t) z.0.job = ⊎_elim (λ (no : Has (items_of (start g trace)) z.0). absurd no) (λ (h : Has (begun_below log t) z.0.job). h) (from.old z.0 z.1) in
      let has_a_job : Has (begun_below log t) a.job = subst (λ (j : Job). Has (begun_below log t) j) z.2 has in
      let done_a = begun_done log t a.job has_a_job in
      let stays = first_stays log a.job t (length log) done_a (omega arith) in
      let under = (first_is log a.job t done_a).below in
      omega arith
    where
      number_of : (j : Job) (s u : Serial) → serial_run g (j ∷ []) s ≡ Some u → j.number ≡ suc (handled_of s j.task)
      number_of j s u h =
          option_and_then_some {P = j.number ≡ suc (handled_of s j.task)} (serial_run g []) (serial_step g j s) u h
          (λ x step rest. let k = stepped g j s x step in (message_there j s k.0 k.1).0)

  promised : IsPromisedRun g trace log lines
  promised =
      let safe = rule_is_safe (tasks_of g) (plan_of_log g trace log) legal log is.rule in
      record {
        tells = record {
          serial = is.serial;
          along = is.along;
          all = is.all;
          lawful = safe.lawful;
          finished = is.finished;
          in_order = λ a b has_a has_b task lt. (let d = due_before a b has_a has_b task lt in let e = deadline_is (tasks_of g) a in omega arith, in_turn a b has_a has_b task lt);
          shown = is.shown;
          ends = is.ends;
        };
        legal = legal;
        edf_ddm = is.rule;
        work_conserving = safe.work_conserving;
        exclusive = safe.exclusive;
        deadlines = met;
        none_replaced = replaced;
      }

pub meets_rules : (g : GraphTree) (trace : List Message) (log : Ticks) (lines : List OutLine) → IsPromisedRun g trace log lines → MeetsRunRules g trace log lines
meets_rules g trace log lines p = record {
  serial = p.tells.serial;
  along = p.tells.along;
  all = p.tells.all;
  rule = p.edf_ddm;
  finished = p.tells.finished;
  shown = p.tells.shown;
  ends = p.tells.ends;
}

pub run_rules_are_exact : RunRulesAreExact
run_rules_are_exact = record {
  exact = λ g trace able log lines. (promised g trace able log lines, meets_rules g trace log lines);
  one = runs_are_one;
}
