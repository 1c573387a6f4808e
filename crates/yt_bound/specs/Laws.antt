-- What the bound of a run says of runs.
use Rattle.std.specs.Prelude.{◌≡◌, ◌+◌, ◌≤◌, List, length, Some}
use Rattle.std.specs.List.{sum_by}
use Rattle.yt_graph.specs.Picture.{GraphTree}
use Rattle.yt_log.specs.declared.job.Job.{Job}
use Rattle.yt_log.specs.declared.plan.PlanItem.{PlanItem}
use Rattle.yt_log.specs.Plan.{IsLegal}
use Rattle.yt_log.specs.Tasks.{Has}
use Rattle.yt_log.specs.Ticks.{Ticks}
use Rattle.yt_list.specs.Numbered.{numbered}
use Rattle.yt_set.specs.declared.task.Task.{Task}
use Rattle.yt_trace.specs.Traces.{PortMessage}
use Rattle.yt_serial.specs.Beginnings.{order_of}
use Rattle.yt_serial.specs.declared.shown.OutLine.{OutLine}
use Rattle.yt_trace.specs.declared.message.Message.{Message}
use Rattle.yt_serial.specs.Premises.{CanRun, IsHandling}
use Rattle.yt_serial.specs.SerialHandling.{Serial, messages_at}
use Rattle.yt_serial.specs.Told.{IsPromisedRun}
use Rattle.yt_bound.specs.Bounds.{most_jobs, most_lines, job_bound}

-- as far as serial handling has come, and where a run is whole
pub record RunsAreBounded : Type 0 where
  -- the messages that are known at the ports, handled or not
  pub messages : (g : GraphTree) (trace : List Message) (order : List Job) (s : Serial) → IsHandling g trace order s → sum_by length s.messages ≤ most_jobs g trace
  -- the jobs that have begun
  pub jobs : (g : GraphTree) (trace : List Message) (order : List Job) (s : Serial) → IsHandling g trace order s → length order ≤ most_jobs g trace
  -- the items of a plan of jobs whose messages are known, as an executive has it
  pub plans :
      (g : GraphTree) (trace : List Message) (order : List Job) (s : Serial) → IsHandling g trace order s → (tasks : List Task) (plan : List PlanItem) → IsLegal tasks plan →
      ((z : PlanItem) → Has plan z → (m : PortMessage) × (numbered (messages_at s z.job.task) z.job.number ≡ Some m)) → length plan ≤ most_jobs g trace
  -- the lines that come of the jobs
  pub lines : (g : GraphTree) (trace : List Message) (order : List Job) (s : Serial) → IsHandling g trace order s → length s.lines ≤ most_lines g trace
  -- the jobs of a run's log, each in the order of beginning once, and its lines
  pub runs :
      (g : GraphTree) (trace : List Message) → CanRun g trace → (log : Ticks) (lines : List OutLine) → IsPromisedRun g trace log lines →
      length (order_of log) + length lines ≤ job_bound g trace
