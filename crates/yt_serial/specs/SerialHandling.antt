-- Serial handling: what a graph means. Messages are handled whole, one at a time, along an order of jobs.
use Rattle.std.specs.Prelude.{ℕ, suc, ◌==◌, ℤ, List, [], ◌∷◌, ◌++◌, map, Option, Some, None, option_map, option_and_then, if◌then◌else◌}
use Rattle.std.specs.Option.{option_map_or, unwrap_or}
use Rattle.yt_graph.specs.declared.graph.Output.{Output}
use Rattle.yt_graph.specs.declared.handled.Write.{Write}
use Rattle.yt_graph.specs.declared.port.Feed as feed
use Rattle.yt_graph.specs.declared.port.Feed.{Feed}
use Rattle.yt_graph.specs.Meaning.{handling}
use Rattle.yt_graph.specs.Picture.{GraphTree, PortTree}
use Rattle.yt_graph.specs.Labels.{no_port}
use Rattle.yt_log.specs.declared.job.Job.{Job}
use Rattle.yt_log.specs.declared.plan.PlanItem.{PlanItem}
use Rattle.yt_order.specs.Sorting.{sort_by}
use Rattle.yt_log.specs.Patterns.{item_before}
use Rattle.yt_log.specs.Plan.{jobs_of}
use Rattle.yt_log.specs.Ticks.{Ticks}
use Rattle.yt_serial.specs.declared.shown.OutLine.{OutLine}
use Rattle.yt_trace.specs.declared.message.Message.{Message}
use Rattle.yt_serial.specs.Beginnings.{order_of}
use Rattle.yt_serial.specs.PortMessages.{passed}
use Rattle.yt_trace.specs.Traces.{PortMessage, messages_of}
use Rattle.yt_list.specs.Numbered.{numbered}

-- a message that was handled: the item of its job, whose cost is the ticks that it took, and the writes of variables
pub record Handled : Type 0 where
  pub item : PlanItem
  pub writes : List Write

-- how far serial handling has come: the variables by place from 0; the messages of each port so far, by its number from 1;
-- the messages that were handled, in order; and what the outputs show of them
pub record Serial : Type 0 where
  pub vars : List ℤ
  pub messages : List (List PortMessage)
  pub handled : List Handled
  pub lines : List OutLine

-- the messages of a port so far, handled ones among them
abbrev pub messages_at : Serial → ℕ → List PortMessage
messages_at s port = unwrap_or (numbered s.messages port) []

-- the jobs so far
abbrev pub items_of : Serial → List PlanItem
items_of s = map (λ (h : Handled). h.item) s.handled

-- how many messages of a port were handled
abbrev pub handled_of : Serial → ℕ → ℕ
handled_of s port = jobs_of port (items_of s)

-- what a feed brings before anything was handled: the messages of an input
abbrev pub from_outside : List Message → Feed → List PortMessage
from_outside trace (feed.TheVariants.Input input) = messages_of input trace
from_outside trace (feed.TheVariants.Out port out) = []

-- the start: nothing was handled
abbrev pub start : GraphTree → List Message → Serial
start g trace = record {
  vars = map (λ v. v.start) g.vars;
  messages = map (λ p. from_outside trace p.feed) g.ports;
  handled = [];
  lines = [];
}

-- what a feed brings where a job of a port passes these messages on through its outs
abbrev pub brought : ℕ → (ℕ → List PortMessage) → Feed → List PortMessage
brought task passes (feed.TheVariants.Input input) = []
brought task passes (feed.TheVariants.Out port out) = if port == task then passes out else []

-- each port's messages, and behind them those that its feed brings
abbrev pub placed : (Feed → List PortMessage) → List PortTree → List (List PortMessage) → List (List PortMessage)
placed brings [] messages = []
placed brings (p ∷ ports) [] = []
placed brings (p ∷ ports) (before ∷ messages) = (before ++ brings p.feed) ∷ placed brings ports messages

-- what an output of a number shows of messages
abbrev pub shown : ℕ → List PortMessage → List OutLine
shown output messages = map (λ (m : PortMessage). record { time = m.time; output = output; values = m.values }) messages

-- what these outputs, numbered from n on, show where a job of a port passes these messages on through its outs
abbrev pub all_shown : ℕ → (ℕ → List PortMessage) → ℕ → List Output → List OutLine
all_shown task passes n [] = []
all_shown task passes n (o ∷ outputs) = (if o.port == task then shown n (passes o.out) else []) ++ all_shown task passes (suc n) outputs

-- the port of a job
abbrev pub port_of : GraphTree → Job → PortTree
port_of g job = unwrap_or (numbered g.ports job.task) no_port

-- a job handles a message whole
abbrev pub handle_message : GraphTree → Job → PortMessage → Serial → Serial
handle_message g job message s =
    let h = handling g (port_of g job) message.values s.vars in
    let passes = passed g (port_of g job) job.number message.time h.sends in
    record {
      vars = h.vars;
      messages = placed (brought job.task passes) g.ports s.messages;
      handled = s.handled ++ (record { item = record { job = job; arrival = message.time; cost = h.ticks }; writes = h.writes }) ∷ [];
      lines = s.lines ++ all_shown job.task passes 1 g.outputs;
    }

-- the message of a job: its port's next one that wasn't handled; there is none for a job of another number
abbrev pub message_of : Job → Serial → Option PortMessage
message_of job s = if job.number == suc (handled_of s job.task) then numbered (messages_at s job.task) job.number else None

-- the step of a job, which handles its message; a job without one has no step
abbrev pub serial_step : GraphTree → Job → Serial → Option Serial
serial_step g job s = option_map (λ message. handle_message g job message s) (message_of job s)

-- one step after another
abbrev pub serial_run : GraphTree → List Job → Serial → Option Serial
serial_run g [] s = Some s
serial_run g (job ∷ jobs) s = option_and_then (serial_run g jobs) (serial_step g job s)

-- the plan that serial handling makes: its jobs in order of arrival, and then of task
abbrev pub plan_of : Serial → List PlanItem
plan_of s = sort_by item_before (items_of s)

-- serial handling along a log's order of beginning
abbrev pub handled_along : GraphTree → List Message → Ticks → Option Serial
handled_along g trace log = serial_run g (order_of log) (start g trace)

-- the plan of a log: that of serial handling along it
abbrev pub plan_of_log : GraphTree → List Message → Ticks → List PlanItem
plan_of_log g trace log = option_map_or plan_of (handled_along g trace log) []
