-- Which graphs have handlers that may take too many ticks or send too many messages.
use Rattle.std.specs.Prelude.{◌≡◌, ℕ, ◌+◌, ◌-◌, ◌^◌, ◌≤◌, min, nat_lt, if◌then◌else◌, List, [], ◌∷◌, length, Option, None, Some}
use Rattle.std.specs.Option.{option_map, option_or}
use Rattle.yt_graph.specs.declared.port.OutHead.{OutHead}
use Rattle.yt_graph.specs.Picture.{PortTree, GraphTree}
use Rattle.yt_graph.specs.Cost.{greatest_cost, greatest_sends}
use Rattle.yt_graph.specs.Limits.{most_cost}
use Rattle.yt_cost.specs.declared.fault.CostFault.{CostFault}
use Rattle.yt_cost.specs.declared.fault.CostFault.TheVariants.{Long, Sends, Memory}
use Rattle.yt_cost.specs.declared.limits.TheConstants.{MOST_SENDS}

-- no handling takes more ticks, nor sends more messages on an out, than it may
pub record IsWithinLimits (port : PortTree) : Type 0 where
  pub ticks : greatest_cost port ≤ most_cost
  pub sends : (out : ℕ) → 1 ≤ out → out ≤ length port.outs → greatest_sends port out ≤ MOST_SENDS

-- the first of these outs of a port on which a handling may send too many messages, where they are numbered from this one on
abbrev pub crowded_out : PortTree → ℕ → List OutHead → Option ℕ
crowded_out port out [] = None
crowded_out port out (o ∷ rest) =
    if nat_lt MOST_SENDS (greatest_sends port out) then Some out else crowded_out port (out + 1) rest

-- the fault of a port with this number: too many ticks, else too many messages on an out
abbrev pub port_fault : ℕ → PortTree → Option CostFault
port_fault number port =
    if nat_lt most_cost (greatest_cost port)
    then Some (Long number (min (greatest_cost port) (2 ^ 64 - 1)))
    else option_map (Sends number) (crowded_out port 1 port.outs)

-- the fault of the first of these ports that has one, where they are numbered from this number on
abbrev pub ports_fault : ℕ → List PortTree → Option CostFault
ports_fault number [] = None
ports_fault number (p ∷ rest) = option_or (port_fault number p) (ports_fault (number + 1) rest)

-- the fault that decides: that of the graph's first port that has one
abbrev pub cost_fault : GraphTree → Option CostFault
cost_fault graph = ports_fault 1 graph.ports

-- want of memory, or this very fault
abbrev pub IsFaultOf : Option CostFault → CostFault → Type 0
IsFaultOf decides Memory = Unit {0}
IsFaultOf decides (Long port ticks) = decides ≡ Some (Long port ticks)
IsFaultOf decides (Sends port out) = decides ≡ Some (Sends port out)
