-- How often messages come to the ports of a graph, and how long after its input's message each may come.
use Rattle.std.specs.Prelude.{ℕ, zero, suc, ◌+◌, ◌-◌, ◌*◌, ◌/◌, length}
use Rattle.std.specs.Option.{option_map, unwrap_or}
use Rattle.yt_list.specs.Numbered.{numbered}
use Rattle.yt_graph.specs.declared.port.Feed as feed
use Rattle.yt_graph.specs.declared.port.Feed.{Feed}
use Rattle.yt_graph.specs.Picture.{PortTree, GraphTree}
use Rattle.yt_graph.specs.Cost.{greatest_sends}
pub use Rattle.yt_graph.specs.Inputs.{input_period}
use Rattle.yt_rates.specs.declared.stream.Stream.{Stream}

-- the `every` of an out, from 1
abbrev pub every_of : PortTree → ℕ → ℕ
every_of port out = unwrap_or (option_map (λ o. o.every) (numbered port.outs out)) 1

-- the gap between two messages of an out, from 1, of a port with this period: so many sends come in each `every` periods
abbrev pub gap_in : PortTree → ℕ → ℕ → ℕ
gap_in port period out = every_of port out * period / greatest_sends port out

-- how many ticks after the arrival of its message a port's job is due, where messages come to the port so: at the end of its period
abbrev pub within_in : PortTree → Stream → ℕ
within_in port stream = stream.period

-- the messages that an out, from 1, passes on for those that come to its port: the first is published when the job is due, and the last all gaps between its sends later
abbrev pub passed_on : PortTree → Stream → ℕ → Stream
passed_on port stream out = record {
  period = gap_in port stream.period out;
  start = stream.start + within_in port stream + (greatest_sends port out - 1) * gap_in port stream.period out;
}

-- the messages of a feed whose chain of sources has at most so many ports
abbrev pub stream_within : GraphTree → ℕ → Feed → Stream
stream_within g n (feed.TheVariants.Input input) = record { period = input_period g input; start = 0 }
stream_within g zero (feed.TheVariants.Out port out) = record { period = 0; start = 0 }
stream_within g (suc n) (feed.TheVariants.Out port out) =
    unwrap_or (option_map (λ p. passed_on p (stream_within g n p.feed) out) (numbered g.ports port)) (record { period = 0; start = 0 })

-- how many ports stand between the input and a feed whose chain of sources has at most so many ports
abbrev pub distance_within : GraphTree → ℕ → Feed → ℕ
distance_within g n (feed.TheVariants.Input input) = 0
distance_within g zero (feed.TheVariants.Out port out) = 0
distance_within g (suc n) (feed.TheVariants.Out port out) =
    unwrap_or (option_map (λ p. distance_within g n p.feed + 1) (numbered g.ports port)) 0

-- the messages that come to a port: no chain of a well-formed graph has more ports than there are
abbrev pub stream_of : GraphTree → PortTree → Stream
stream_of g port = stream_within g (length g.ports) port.feed

-- how many ports stand between the input and a port
abbrev pub distance_of : GraphTree → PortTree → ℕ
distance_of g port = distance_within g (length g.ports) port.feed

-- the least time between two messages at a port
abbrev pub period_of : GraphTree → PortTree → ℕ
period_of g port = (stream_of g port).period

-- how many ticks after the arrival of its message a port's job is due
abbrev pub within_of : GraphTree → PortTree → ℕ
within_of g port = within_in port (stream_of g port)

-- the longest logical time from an input's message to a message at a port that comes of it
abbrev pub start_of : GraphTree → PortTree → ℕ
start_of g port = (stream_of g port).start

-- the least time between two messages that a port passes on through an out, from 1
abbrev pub gap_of : GraphTree → PortTree → ℕ → ℕ
gap_of g port out = (passed_on port (stream_of g port) out).period

-- the longest logical time from an input's message to a message of an out, from 1, that comes of it
abbrev pub reach_of : GraphTree → PortTree → ℕ → ℕ
reach_of g port out = (passed_on port (stream_of g port) out).start
