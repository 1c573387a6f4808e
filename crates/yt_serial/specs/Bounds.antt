-- How many messages a run may come to: of each port, by its chain of sources, and of each output.
use Rattle.std.specs.Prelude.{◌≡◌, ℕ, zero, suc, ◌*◌, ◌/◌, ◌≤◌, List, length, Some}
use Rattle.std.specs.Option.{option_map, unwrap_or}
use Rattle.yt_graph.specs.declared.graph.Output.{Output}
use Rattle.yt_graph.specs.declared.port.Feed as feed
use Rattle.yt_graph.specs.declared.port.Feed.{Feed}
use Rattle.yt_graph.specs.Cost.{greatest_sends}
use Rattle.yt_graph.specs.Picture.{GraphTree, PortTree}
use Rattle.yt_log.specs.declared.job.Job.{Job}
use Rattle.yt_rates.specs.Rates.{every_of}
use Rattle.yt_trace.specs.declared.message.Message.{Message}
use Rattle.yt_trace.specs.Traces.{messages_of}
use Rattle.yt_list.specs.Numbered.{numbered}
use Rattle.yt_serial.specs.SerialHandling.{Serial, messages_at, handled_of}
use Rattle.yt_serial.specs.Premises.{IsHandling}
use Rattle.yt_serial.specs.Lines.{lines_of}

-- the most messages that an out passes on for so many messages at its port
abbrev pub greatest_passed : PortTree → ℕ → ℕ → ℕ
greatest_passed port out messages = messages / every_of port out * greatest_sends port out

-- the most messages of a feed whose chain of sources has at most so many ports
abbrev pub most_messages_within : GraphTree → List Message → ℕ → Feed → ℕ
most_messages_within g trace n (feed.TheVariants.Input input) = length (messages_of input trace)
most_messages_within g trace zero (feed.TheVariants.Out port out) = 0
most_messages_within g trace (suc n) (feed.TheVariants.Out port out) =
    unwrap_or (option_map (λ p. greatest_passed p out (most_messages_within g trace n p.feed)) (numbered g.ports port)) 0

-- the most messages at a port
abbrev pub most_messages : GraphTree → List Message → PortTree → ℕ
most_messages g trace port = most_messages_within g trace (length g.ports) port.feed

-- each port handles at most so many messages, and each output shows at most so many
pub record MessagesAreBounded : Type 0 where
  pub ports :
      (g : GraphTree) (trace : List Message) (order : List Job) (s : Serial) → IsHandling g trace order s →
      (port : ℕ) (p : PortTree) → numbered g.ports port ≡ Some p → (handled_of s port ≤ length (messages_at s port)) × (length (messages_at s port) ≤ most_messages g trace p)
  pub outputs :
      (g : GraphTree) (trace : List Message) (order : List Job) (s : Serial) → IsHandling g trace order s →
      (n : ℕ) (o : Output) (p : PortTree) → numbered g.outputs n ≡ Some o → numbered g.ports o.port ≡ Some p →
      length (lines_of n s.lines) ≤ greatest_passed p o.out (most_messages g trace p)
