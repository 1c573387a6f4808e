-- The fault of a graph's rates that decides.
use Rattle.std.specs.Prelude.{◌≡◌, ◌↔◌, ◌⊎◌, ℕ, ◌+◌, ◌-◌, ◌<◌, ◌≤◌, length, slice_get, None, Some}
use Rattle.std.specs.List.{All}
use Rattle.yt_graph.specs.Cost.{greatest_sends}
use Rattle.yt_graph.specs.Picture.{PortTree, GraphTree}
use Rattle.yt_graph.specs.WellFormed.{IsWellFormed}
use Rattle.yt_rates.specs.declared.fault.RateFault.{RateFault}
use Rattle.yt_rates.specs.declared.fault.RateFault.TheVariants.{Over, Zero, Span, Memory}
use Rattle.yt_rates.specs.Faults.{ArePassedWithin, IsWithinRates, rate_fault}
use Rattle.yt_rates.specs.Limits.{most_reach}
use Rattle.yt_rates.specs.Rates.{stream_of, distance_of, period_of, gap_of, reach_of}
use Rattle.yt_set.specs.Limits.{most_ticks}

-- an out of a port, from 1, whose port's period is within its limit, as are all outs before it
pub record IsFirstBad (g : GraphTree) (port : PortTree) (out : ℕ) : Type 0 where
  pub period : period_of g port ≤ most_ticks
  pub some : 1 ≤ out
  pub one_of : out ≤ length port.outs
  pub before : ArePassedWithin port (stream_of g port) (out - 1)

-- the first cause of a port's fault, where the port has this number: its period is too long; else the first of its outs that is out of its
-- limits is never sent on or has no gap, or else reaches too far
abbrev pub IsFirstCause : GraphTree → ℕ → PortTree → RateFault → Type 0
IsFirstCause g number port (Over n period) = (n ≡ number) × (period ≡ period_of g port) × (most_ticks < period)
IsFirstCause g number port (Zero n out) = (n ≡ number) × IsFirstBad g port out × ((greatest_sends port out ≡ 0) ⊎ (gap_of g port out ≡ 0))
IsFirstCause g number port (Span n) =
    (n ≡ number) × (out : ℕ) × IsFirstBad g port out × (1 ≤ greatest_sends port out) × (1 ≤ gap_of g port out) × (most_reach < reach_of g port out)
IsFirstCause g number port Memory = ⊥

-- a port at one place, from 0, comes before that at another: it stands nearer to the input, or as near and earlier
abbrev pub ComesBefore : GraphTree → PortTree → ℕ → PortTree → ℕ → Type 0
ComesBefore g p i q j = (distance_of g p < distance_of g q) ⊎ ((distance_of g p ≡ distance_of g q) × (i < j))

-- the fault is the first cause of a port of the graph, and all ports that come before this one are within their rates
pub record IsFirstFault (g : GraphTree) (fault : RateFault) : Type 0 where
  pub place : ℕ
  pub port : PortTree
  pub there : slice_get g.ports place ≡ Some port
  pub cause : IsFirstCause g (place + 1) port fault
  pub before : (i : ℕ) (p : PortTree) → slice_get g.ports i ≡ Some p → ComesBefore g p i port place → IsWithinRates g p

pub record RateFaultIsFirst : Type 0 where
  pub first : (g : GraphTree) → IsWellFormed g → (fault : RateFault) → rate_fault g ≡ Some fault → IsFirstFault g fault
  pub none : (g : GraphTree) → IsWellFormed g → (rate_fault g ≡ None) ↔ All (IsWithinRates g) g.ports
