-- Which graphs are accepted, and why the others aren't.
use Rattle.std.specs.Prelude.{◌≡◌, ◌≤◌, List, None, Some}
use Rattle.std.specs.List.{All}
use Rattle.yt_graph.specs.declared.graph.Graph.{Graph}
use Rattle.yt_graph.specs.Picture.{GraphTree, graph_tree}
use Rattle.yt_graph.specs.WellFormed.{IsWellFormed}
use Rattle.yt_cost.specs.Codes.{PortCode, AreCodesOf}
use Rattle.yt_cost.specs.Faults.{IsWithinLimits}
use Rattle.yt_set.specs.declared.task.Task.{Task}
use Rattle.yt_set.specs.Tasks.{Fits, hyperperiod}
use Rattle.yt_fits.specs.Loads.{hyperperiod_limit}
use Rattle.yt_fits.specs.Unfits.{IsReason, IsUnfit}
use Rattle.yt_rates.specs.declared.fault.RateFault as fault
use Rattle.yt_rates.specs.declared.fault.RateFault.{RateFault}
use Rattle.yt_rates.specs.declared.refused.AcceptCause as cause
use Rattle.yt_rates.specs.declared.refused.AcceptCause.{AcceptCause}
use Rattle.yt_rates.specs.Faults.{IsWithinRates, rate_fault}
use Rattle.yt_rates.specs.Tables.{PortRates, AreRatesOf, tasks_of}

-- a graph with its codes, its rates by place from 0, and its tasks
pub record Parts : Type 0 where
  pub graph : Graph
  pub codes : List PortCode
  pub rates : List PortRates
  pub set : List Task

-- the rates and the tasks are the graph's, the rates are within their limits, and the tasks fit, with a hyperperiod within its limit
pub record IsFitting (g : GraphTree) (table : List PortRates) (tasks : List Task) : Type 0 where
  pub rates : AreRatesOf g table
  pub limits : All (IsWithinRates g) g.ports
  pub set : tasks ≡ tasks_of g
  pub narrow : hyperperiod tasks ≤ hyperperiod_limit tasks
  pub fits : Fits tasks

-- the graph is well formed, the codes are the graph's and within their limits, and its rates and tasks fit
pub record IsAccepted (parts : Parts) : Type 0 where
  pub well_formed : IsWellFormed (graph_tree parts.graph)
  pub codes : AreCodesOf (graph_tree parts.graph) parts.codes
  pub costs : All IsWithinLimits (graph_tree parts.graph).ports
  pub fitting : IsFitting (graph_tree parts.graph) parts.rates parts.set

-- a fault of the rates as a cause: want of memory is one of its own
abbrev pub cause_of : RateFault → AcceptCause
cause_of fault.TheVariants.Memory = cause.TheVariants.Memory
cause_of (fault.TheVariants.Over port period) = cause.TheVariants.Rate (fault.TheVariants.Over port period)
cause_of (fault.TheVariants.Zero port out) = cause.TheVariants.Rate (fault.TheVariants.Zero port out)
cause_of (fault.TheVariants.Span port) = cause.TheVariants.Rate (fault.TheVariants.Span port)

-- the cause is the graph's: the fault of the rates that decides; else its tasks, and why they don't fit; or memory ran out
abbrev pub IsCauseOf : GraphTree → AcceptCause → Type 0
IsCauseOf g (cause.TheVariants.Rate fault) = rate_fault g ≡ Some fault
IsCauseOf g (cause.TheVariants.Unfit why set) = (rate_fault g ≡ None) × (set ≡ tasks_of g) × IsReason set why × IsUnfit set
IsCauseOf g cause.TheVariants.Memory = Unit {0}
