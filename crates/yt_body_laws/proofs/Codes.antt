-- What is kept of a port that is there.
use Rattle.std.proofs.Common.{◌≡◌, ℕ, zero, suc, ◌≤◌, List, slice_get, Option, Some, All, sym, ap, subst, arith}
use Rattle.std.specs.Option.{unwrap_or}
use Rattle.std.proofs.lemmas.List.Elements.{All-get_or}
use Rattle.std.proofs.lemmas.Option.{none-some, get_or_from_slice_get, slice_get_within}
use Rattle.yt_graph.specs.Cost.{greatest_cost}
use Rattle.yt_graph.specs.Labels.{no_port}
use Rattle.yt_graph.specs.Limits.{most_cost}
use Rattle.yt_graph.specs.Picture.{GraphTree, PortTree, graph_tree}
use Rattle.yt_list.specs.Numbered.{numbered, numbered_or}
use Rattle.yt_cost.specs.CodeAlone.{MeansPort}
use Rattle.yt_cost.specs.CodeVars.{UsesVarsOf}
use Rattle.yt_cost.specs.Codes.{IsCodeOf, PortCode}
use Rattle.yt_cost.specs.Faults.{IsWithinLimits}
use Rattle.yt_rates.specs.Acceptance.{IsAccepted, Parts}
use Rattle.yt_serial.proofs.Lemmas.{numbered_within}
use Rattle.yt_interleave.specs.Interleaved.{port_at}
use Rattle.yt_body.specs.State.{code_at, no_code}
use Rattle.yt_body.proofs.Lemmas.{number_at}

-- the graph of parts
abbrev pub graph_in : Parts → GraphTree
graph_in parts = graph_tree parts.graph

-- a port that is there is the one at its number
pub port_is : (g : GraphTree) (port : ℕ) (p : PortTree) → numbered g.ports port ≡ Some p → port_at g port ≡ p
port_is g port p at = ap (λ (o : Option PortTree). unwrap_or o no_port) at

-- what holds of each holds of one
pub of_each : {X : Type 0} (P : X → Type 0) (xs : List X) → All P xs → (k : ℕ) (x : X) → slice_get xs k ≡ Some x → P x
of_each P xs all k x at = subst P (get_or_from_slice_get xs k x x at) (All-get_or P xs k x (slice_get_within xs k x at) all)

-- what holds of each port holds of one
pub of_port : (P : PortTree → Type 0) (g : GraphTree) → All P g.ports → (port : ℕ) (p : PortTree) → numbered g.ports port ≡ Some p → P p
of_port P g all zero p at = absurd (none-some p at)
of_port P g all (suc k) p at = of_each P g.ports all k p at

module _ (parts : Parts) (accepted : IsAccepted parts) (port : ℕ) (p : PortTree) (at : numbered (graph_tree parts.graph).ports port ≡ Some p) where
  code_is : IsCodeOf (graph_tree parts.graph) (port_at (graph_tree parts.graph) port) (numbered_or parts.codes port no_code)
  code_is =
      let g = graph_tree parts.graph in
      let inside = numbered_within g.ports port p at in
      let count = accepted.codes.count in
      let kept = number_at parts.codes port inside.0 (omega (arith, inside.1)) in
      let of = accepted.codes.each port p at kept.0 kept.1 in
      let same : numbered_or parts.codes port no_code ≡ kept.0 = ap (λ (o : Option PortCode). unwrap_or o no_code) kept.1 in
      subst (λ (c : PortCode). IsCodeOf g (port_at g port) c) (sym same) (subst (λ (q : PortTree). IsCodeOf g q kept.0) (sym (port_is g port p at)) of)

  pub means : MeansPort (graph_tree parts.graph) (code_at parts port) (port_at (graph_tree parts.graph) port)
  means = code_is.meaning

  pub own : UsesVarsOf (graph_tree parts.graph) (code_at parts port) (port_at (graph_tree parts.graph) port)
  own = code_is.own_vars

  pub cost_within : greatest_cost (port_at (graph_tree parts.graph) port) ≤ most_cost
  cost_within =
      let most = (of_port IsWithinLimits (graph_tree parts.graph) accepted.costs port p at).ticks in
      let same : greatest_cost (port_at (graph_tree parts.graph) port) ≡ greatest_cost p = ap greatest_cost (port_is (graph_tree parts.graph) port p at) in
      omega arith
