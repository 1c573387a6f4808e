-- When the messages of a run come, and when its log ends.
use Rattle.std.specs.Prelude.{ℕ, ◌+◌, ◌≤◌, List, length, IsSomeAnd}
use Rattle.std.specs.List.{All}
use Rattle.std.specs.Option.{ForSome}
use Rattle.yt_graph.specs.Picture.{GraphTree}
use Rattle.yt_list.specs.Numbered.{numbered}
use Rattle.yt_log.specs.declared.job.Job.{Job}
use Rattle.yt_log.specs.declared.plan.PlanItem.{PlanItem}
use Rattle.yt_log.specs.Plan.{IsLegalPlan}
use Rattle.yt_log.specs.Ticks.{Ticks, IsLawful, KeepsDeadlines}
use Rattle.yt_rates.specs.Limits.{most_reach}
use Rattle.yt_rates.specs.Rates.{start_of, reach_of}
use Rattle.yt_rates.specs.Tables.{tasks_of}
use Rattle.yt_serial.specs.declared.shown.OutLine.{OutLine}
use Rattle.yt_trace.specs.declared.message.Message.{Message}
use Rattle.yt_serial.specs.Beginnings.{busy_until}
use Rattle.yt_trace.specs.Limits.{most_time}
use Rattle.yt_serial.specs.Premises.{CanRun, IsHandling}
use Rattle.yt_serial.specs.SerialHandling.{Serial, messages_at, plan_of}
use Rattle.yt_serial.specs.Told.{IsPromisedRun}
use Rattle.yt_set.specs.declared.task.Task.{Task}
use Rattle.yt_set.specs.Tasks.{IsTaskSet}
use Rattle.yt_log.specs.Limits.{most_deadline}

-- along each order on which serial handling is defined a port's messages come by the last tick of a trace and the port's start; each line is
-- an output's, and comes by the last tick of a trace and the reach of the output's out, so that all lines come by tick 8,000,000; and the
-- plan is legal, and its jobs arrive by then
pub record MessagesComeInTime : Type 0 where
  pub messages :
      (g : GraphTree) (trace : List Message) (order : List Job) (s : Serial) → IsHandling g trace order s →
      (port : ℕ) → ForSome (numbered g.ports port) (λ p. All (λ m. m.time ≤ most_time + start_of g p) (messages_at s port))
  pub outputs :
      (g : GraphTree) (trace : List Message) (order : List Job) (s : Serial) → IsHandling g trace order s →
      All (λ l. IsSomeAnd (numbered g.outputs l.output) (λ o. IsSomeAnd (numbered g.ports o.port) (λ p. l.time ≤ most_time + reach_of g p o.out))) s.lines
  pub lines :
      (g : GraphTree) (trace : List Message) (order : List Job) (s : Serial) → IsHandling g trace order s →
      All (λ l. l.time ≤ most_time + most_reach) s.lines
  pub plan :
      (g : GraphTree) (trace : List Message) (order : List Job) (s : Serial) → IsHandling g trace order s → IsLegalPlan (tasks_of g) (plan_of s)

-- a lawful log that keeps its deadlines up to its length goes to no job from tick 9,000,000 on: that of any legal plan whose jobs arrive in
-- time, and that of the plan of serial handling
pub record LogsEnd : Type 0 where
  pub plan :
      (tasks : List Task) → IsTaskSet tasks → (plan : List PlanItem) → IsLegalPlan tasks plan →
      (log : Ticks) → IsLawful plan log → KeepsDeadlines tasks plan log (length log) → busy_until log (length log) ≤ most_deadline
  pub handling :
      (g : GraphTree) (trace : List Message) (order : List Job) (s : Serial) → IsHandling g trace order s →
      (log : Ticks) → IsLawful (plan_of s) log → KeepsDeadlines (tasks_of g) (plan_of s) log (length log) → busy_until log (length log) ≤ most_deadline

-- and the log of each promised run has no more ticks than that
abbrev pub RunsEnd : Type 0
RunsEnd = (g : GraphTree) (trace : List Message) → CanRun g trace → (log : Ticks) (lines : List OutLine) → IsPromisedRun g trace log lines → length log ≤ most_deadline
