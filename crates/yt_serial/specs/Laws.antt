-- What is proved of serial handling.
use Rattle.std.specs.Prelude.{◌≡◌, ℕ, ◌≤◌, ℤ, List, length}
use Rattle.std.specs.Option.{ForSome}
use Rattle.yt_graph.specs.Picture.{GraphTree}
use Rattle.yt_log.specs.declared.job.Job.{Job}
use Rattle.yt_log.specs.Plan.{IsLegal}
use Rattle.yt_log.specs.Ticks.{Ticks}
use Rattle.yt_rates.specs.Rates.{period_of}
use Rattle.yt_rates.specs.Tables.{tasks_of}
use Rattle.yt_trace.specs.declared.message.Message.{Message}
use Rattle.yt_trace.specs.Traces.{AreApart}
use Rattle.yt_list.specs.Numbered.{numbered}
use Rattle.yt_serial.specs.SerialHandling.{Handled, Serial, messages_at, plan_of, plan_of_log}
use Rattle.yt_serial.specs.Variables.{variables_at}
use Rattle.yt_serial.specs.Premises.{CanRun, IsHandling}

-- along each order on which it is defined, serial handling makes a legal plan for the graph's tasks
abbrev pub PlansAreLegal : Type 0
PlansAreLegal = (g : GraphTree) (trace : List Message) (order : List Job) (s : Serial) → IsHandling g trace order s → IsLegal (tasks_of g) (plan_of s)

-- so the plan of each log is legal
abbrev pub LogPlansAreLegal : Type 0
LogPlansAreLegal = (g : GraphTree) (trace : List Message) (log : Ticks) → CanRun g trace → IsLegal (tasks_of g) (plan_of_log g trace log)

-- and the messages at each port, handled or not, are at least its period apart
abbrev pub MessagesAreApart : Type 0
MessagesAreApart =
    (g : GraphTree) (trace : List Message) (order : List Job) (s : Serial) → IsHandling g trace order s →
    (port : ℕ) → ForSome (numbered g.ports port) (λ p. AreApart (period_of g p) (messages_at s port))

-- after the end of a log the variables stay
abbrev pub VariablesStay : Type 0
VariablesStay = (vars : List ℤ) (handled : List Handled) (log : Ticks) (t : ℕ) → length log ≤ t → variables_at vars handled log t ≡ variables_at vars handled log (length log)
