-- What decides about a graph that has a tree and calls no operator: its names, its costs or its rates.
use Rattle.std.specs.Prelude.{List, [], Option, None, Some}
use Rattle.yt_graph.specs.AstPicture.{ItemTree}
use Rattle.yt_graph.specs.Picture.{GraphTree}
use Rattle.yt_name_faults.specs.declared.fault.NameFault.{NameFault}
use Rattle.yt_name_faults.specs.Faults.{name_faults}
use Rattle.yt_name_faults.specs.First.{first_fault}
use Rattle.yt_names.specs.Resolved.{resolved}
use Rattle.yt_cost.specs.declared.fault.CostFault.{CostFault}
use Rattle.yt_cost.specs.Faults.{cost_fault}
use Rattle.yt_rates.specs.declared.fault.RateFault.{RateFault}
use Rattle.yt_rates.specs.Faults.{rate_fault}

-- a graph's names have this first fault; it is resolved to this graph, whose costs or whose rates have this first fault; or all of them are in order
pub data Stage : Type 0 where
  misnamed : NameFault → Stage
  costly : GraphTree → CostFault → Stage
  misrated : GraphTree → RateFault → Stage
  rated : GraphTree → Stage

-- the first fault of a graph's rates decides, where there is one
abbrev pub behind_rates : GraphTree → Option RateFault → Stage
behind_rates graph None = rated graph
behind_rates graph (Some fault) = misrated graph fault

-- the first fault of its costs, where there is one, and else its rates
abbrev pub behind_costs : GraphTree → Option CostFault → Stage
behind_costs graph None = behind_rates graph (rate_fault graph)
behind_costs graph (Some fault) = costly graph fault

-- the first fault of names, where there is one, and else the costs of the graph that the names stand for
abbrev pub behind_names : List ItemTree → Option NameFault → Stage
behind_names items None = behind_costs (resolved items []) (cost_fault (resolved items []))
behind_names items (Some fault) = misnamed fault

-- what decides about a graph
abbrev pub stage_of : List ItemTree → Stage
stage_of items = behind_names items (first_fault (name_faults items []))
