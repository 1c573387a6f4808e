-- Which graphs have rates or reaches that are out of range.
use Rattle.std.specs.Prelude.{◌≡◌, ℕ, zero, suc, ◌+◌, ◌≤◌, ◌==◌, ◌||◌, nat_lt, if◌then◌else◌, List, [], ◌∷◌, length, Option, None, Some}
use Rattle.std.specs.Option.{option_or}
use Rattle.yt_graph.specs.declared.port.OutHead.{OutHead}
use Rattle.yt_graph.specs.Picture.{PortTree, GraphTree}
use Rattle.yt_graph.specs.Cost.{greatest_sends}
use Rattle.yt_set.specs.Limits.{most_ticks}
use Rattle.yt_rates.specs.Limits.{most_reach}
use Rattle.yt_rates.specs.declared.stream.Stream.{Stream}
use Rattle.yt_rates.specs.declared.fault.RateFault.{RateFault}
use Rattle.yt_rates.specs.declared.fault.RateFault.TheVariants.{Over, Zero, Span, Memory}
use Rattle.yt_rates.specs.Rates.{passed_on, stream_of, distance_of, period_of, start_of}

-- the fault of the first of these outs that has one, where they are numbered from this one on, of a port with this number to which these messages come
abbrev pub outs_fault : ℕ → PortTree → Stream → ℕ → List OutHead → Option RateFault
outs_fault number port stream out [] = None
outs_fault number port stream out (o ∷ rest) =
    if greatest_sends port out == 0 || (passed_on port stream out).period == 0 then Some (Zero number out)
    else if nat_lt most_reach (passed_on port stream out).start then Some (Span number)
    else outs_fault number port stream (out + 1) rest

-- the fault of a port with this number to which these messages come: too long a period, else that of its first out with one
abbrev pub stream_fault : ℕ → PortTree → Stream → Option RateFault
stream_fault number port stream =
    if nat_lt most_ticks stream.period then Some (Over number stream.period) else outs_fault number port stream 1 port.outs

-- the fault of a port of the graph
abbrev pub port_fault : GraphTree → ℕ → PortTree → Option RateFault
port_fault g number port = stream_fault number port (stream_of g port)

-- the fault of the first of these ports that stands so far from the input and has one, where they are numbered from this number on
abbrev pub fault_at : GraphTree → ℕ → ℕ → List PortTree → Option RateFault
fault_at g distance number [] = None
fault_at g distance number (p ∷ rest) =
    option_or (if distance_of g p == distance then port_fault g number p else None) (fault_at g distance (number + 1) rest)

-- the first fault at so many distances from this one on
abbrev pub fault_from : GraphTree → ℕ → ℕ → Option RateFault
fault_from g zero distance = None
fault_from g (suc more) distance = option_or (fault_at g distance 1 g.ports) (fault_from g more (distance + 1))

-- the fault that decides: that of the first port with one, by the distance from the input and then by number. No port of a
-- well-formed graph stands farther from the input than there are ports
abbrev pub rate_fault : GraphTree → Option RateFault
rate_fault g = fault_from g (length g.ports + 1) 0

-- want of memory, or this very fault
abbrev pub IsFaultOf : Option RateFault → RateFault → Type 0
IsFaultOf decides Memory = Unit {0}
IsFaultOf decides (Over port period) = decides ≡ Some (Over port period)
IsFaultOf decides (Zero port out) = decides ≡ Some (Zero port out)
IsFaultOf decides (Span port) = decides ≡ Some (Span port)

-- so many outs of a port to which these messages come are sent on, with a gap of 1 at least and a reach within the limit
pub record ArePassedWithin (port : PortTree) (stream : Stream) (count : ℕ) : Type 0 where
  pub sends : (out : ℕ) → 1 ≤ out → out ≤ count → 1 ≤ greatest_sends port out
  pub gap : (out : ℕ) → 1 ≤ out → out ≤ count → 1 ≤ (passed_on port stream out).period
  pub reach : (out : ℕ) → 1 ≤ out → out ≤ count → (passed_on port stream out).start ≤ most_reach

-- the period of a port and the time within which its messages come of the input's are within their limits, and its outs are within their limits
pub record IsWithinRates (g : GraphTree) (port : PortTree) : Type 0 where
  pub some_period : 1 ≤ period_of g port
  pub period : period_of g port ≤ most_ticks
  pub start : start_of g port ≤ most_reach
  pub outs : ArePassedWithin port (stream_of g port) (length port.outs)
