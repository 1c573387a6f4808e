-- The wires of a graph: each out of each port, with all that it feeds.
use Rattle.std.specs.Prelude.{All, ℕ, ◌+◌, ◌==◌, ◌&&◌, Bool, false, List, [], ◌∷◌, ◌++◌, map, if◌then◌else◌}
use Rattle.yt_graph.specs.Cost.{greatest_sends}
use Rattle.yt_graph.specs.declared.graph.Output.{Output}
use Rattle.yt_graph.specs.declared.port.Feed as feed
use Rattle.yt_graph.specs.declared.port.Feed.{Feed}
use Rattle.yt_graph.specs.declared.port.OutHead.{OutHead}
use Rattle.yt_graph.specs.Picture.{GraphTree, PortTree}
use Rattle.yt_rates.specs.Rates.{gap_of, period_of}
use Rattle.yt_chan.specs.declared.wire.Wire.{Wire}
use Rattle.yt_chan.specs.Wires.{AreWires}
use Rattle.yt_cost.specs.Faults.{IsWithinLimits}
use Rattle.yt_graph.specs.WellFormed.{IsWellFormed}
use Rattle.yt_rates.specs.Faults.{IsWithinRates}

-- whether a feed is an out of a port, both by their numbers from 1
abbrev pub is_fed : ℕ → ℕ → Feed → Bool
is_fed port out (feed.TheVariants.Input input) = false
is_fed port out (feed.TheVariants.Out p o) = p == port && o == out

-- the numbers of those that pass a test, where they are numbered from n on
abbrev pub numbers_where : {X : Type 0} → (X → Bool) → ℕ → List X → List ℕ
numbers_where test n [] = []
numbers_where test n (x ∷ xs) = (if test x then n ∷ [] else []) ++ numbers_where test (n + 1) xs

-- the numbers of the ports that an out feeds
abbrev pub ports_fed : ℕ → ℕ → List PortTree → List ℕ
ports_fed port out ports = numbers_where (λ p. is_fed port out p.feed) 1 ports

-- whether an output shows an out of a port
abbrev pub shows : ℕ → ℕ → Output → Bool
shows port out o = o.port == port && o.out == out

-- the numbers of the outputs that show an out
abbrev pub outputs_fed : ℕ → ℕ → List Output → List ℕ
outputs_fed port out outputs = numbers_where (shows port out) 1 outputs

-- the wire of an out of a port
abbrev pub wire_of : GraphTree → ℕ → PortTree → ℕ → OutHead → Wire
wire_of g port p out head = record {
  port = port;
  out = out;
  width = head.width;
  sends = greatest_sends p out;
  every = head.every;
  period = period_of g p;
  gap = gap_of g p out;
  ports = ports_fed port out g.ports;
  outputs = outputs_fed port out g.outputs;
}

-- the wires of these outs of a port, numbered from n on
abbrev pub wires_of_outs : GraphTree → ℕ → PortTree → ℕ → List OutHead → List Wire
wires_of_outs g port p n [] = []
wires_of_outs g port p n (head ∷ outs) = wire_of g port p n head ∷ wires_of_outs g port p (n + 1) outs

-- the wires of these ports, numbered from n on
abbrev pub wires_of_ports : GraphTree → ℕ → List PortTree → List Wire
wires_of_ports g n [] = []
wires_of_ports g n (p ∷ ports) = wires_of_outs g n p 1 p.outs ++ wires_of_ports g (n + 1) ports

-- the wires of a graph, ports by number, and of each the outs by number
abbrev pub wires_of : GraphTree → List Wire
wires_of g = wires_of_ports g 1 g.ports

-- how many numbers the messages of each port have
abbrev pub widths_of : GraphTree → List ℕ
widths_of g = map (λ p. p.params) g.ports

-- the wires of a well-formed graph whose rates and costs are within their limits are sound
abbrev pub WiresAreSound : Type 0
WiresAreSound = (g : GraphTree) → IsWellFormed g → All (IsWithinRates g) g.ports → All IsWithinLimits g.ports → AreWires (widths_of g) (wires_of g)
