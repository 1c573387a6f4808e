-- What is kept of the rates of a graph.
use Rattle.std.specs.Prelude.{◌≡◌, ℕ, ◌≤◌, List, length, map, Some}
use Rattle.std.specs.List.{All}
use Rattle.std.specs.Option.{ForSome}
use Rattle.yt_list.specs.Numbered.{numbered}
use Rattle.yt_graph.specs.Picture.{PortTree, GraphTree}
use Rattle.yt_graph.specs.Cost.{greatest_cost}
use Rattle.yt_set.specs.declared.task.Task.{Task}
use Rattle.yt_set.specs.Limits.{most_ticks}
use Rattle.yt_rates.specs.Limits.{most_reach}
use Rattle.yt_rates.specs.declared.stream.Stream.{Stream}
use Rattle.yt_rates.specs.Rates.{passed_on, stream_of, period_of}

-- what is kept of a port: the messages that come to it, and those that its outs pass on, by place from 0
pub record PortRates : Type 0 where
  pub stream : Stream
  pub outs : List Stream

-- what is kept of a port is within the limits: the period of the messages that come to it, and the time within which they come of the input's; and, of what each out passes on, the gap and the reach
pub record IsKeptWithin (kept : PortRates) : Type 0 where
  pub some_period : 1 ≤ kept.stream.period
  pub period : kept.stream.period ≤ most_ticks
  pub start : kept.stream.start ≤ most_reach
  pub gaps : All (λ s. 1 ≤ s.period) kept.outs
  pub reaches : All (λ s. s.start ≤ most_reach) kept.outs

-- a fact about what is kept of the port with this number, from 1
abbrev pub ForRates : List PortRates → ℕ → (PortRates → Type 0) → Type 0
ForRates rates port P = ForSome (numbered rates port) P

-- the messages that each out of a port passes on, by place from 0, for those that come to the port
pub record ArePassedOn (port : PortTree) (stream : Stream) (outs : List Stream) : Type 0 where
  pub count : length outs ≡ length port.outs
  pub each : (out : ℕ) → 1 ≤ out → out ≤ length port.outs → numbered outs out ≡ Some (passed_on port stream out)

-- the numbers that are kept are the port's
pub record IsRatesOf (g : GraphTree) (port : PortTree) (kept : PortRates) : Type 0 where
  pub stream : kept.stream ≡ stream_of g port
  pub outs : ArePassedOn port (stream_of g port) kept.outs

-- each port has its rates under its number
pub record AreRatesOf (g : GraphTree) (rates : List PortRates) : Type 0 where
  pub count : length rates ≡ length g.ports
  pub each : (port : ℕ) → ForSome (numbered g.ports port) (λ p. ForRates rates port (IsRatesOf g p))

-- the task that a port is: its greatest cost, its period and its resource
abbrev pub task_of : GraphTree → PortTree → Task
task_of g port = record { cost = greatest_cost port; period = period_of g port; resource = port.group }

-- the tasks of a graph, by the numbers of their ports
abbrev pub tasks_of : GraphTree → List Task
tasks_of g = map (task_of g) g.ports
