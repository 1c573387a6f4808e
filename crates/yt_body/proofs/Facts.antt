-- What an accepted graph says of a port that is there.
use Rattle.std.proofs.Common.{◌≡◌, ℕ, ◌-◌, ◌<◌, ◌≤◌, List, length, slice_get, Option, Some, refl, sym, ap, subst, ◌∙◌, arith}
use Rattle.std.specs.Option.{unwrap_or}
use Rattle.std.proofs.lemmas.List.{length-map}
use Rattle.yt_graph.specs.Cost.{greatest_cost}
use Rattle.yt_graph.specs.Labels.{no_port}
use Rattle.yt_graph.specs.Picture.{GraphTree, PortTree, graph_tree}
use Rattle.yt_graph.specs.WellFormed.{IsFinePort}
use Rattle.yt_code.specs.Valid.{Program}
use Rattle.yt_cost.specs.Codes.{ForCode, IsCodeOf, PortCode}
use Rattle.yt_cost.specs.Faults.{IsWithinLimits}
use Rattle.yt_cost.proofs.Lemmas.{fine_port}
use Rattle.yt_list.specs.Numbered.{numbered}
use Rattle.yt_list.proofs.Lemmas.{numbered_there}
use Rattle.yt_list.specs.Numbered.{numbered_or}
use Rattle.yt_log.specs.declared.job.Job.{Job}
use Rattle.yt_rates.specs.Acceptance.{IsAccepted, Parts}
use Rattle.yt_rates.specs.Tables.{task_of, tasks_of}
use Rattle.yt_serial.proofs.Lemmas.{port_task}
use Rattle.yt_set.specs.declared.task.Task.{Task}
use Rattle.yt_chan.specs.Wires.{AreWires}
use Rattle.yt_exec.specs.Bodies.{task_in}
use Rattle.yt_interleave.specs.Interleaved.{group_at, port_at}
use Rattle.yt_body.specs.Sound.{IsPortOf}
use Rattle.yt_body.specs.State.{code_at, no_code}
use Rattle.yt_body.specs.Wiring.{widths_of, wires_of}
use Rattle.yt_body.proofs.Sound.{all_there, are_wires}
use Rattle.yt_body.proofs.There.{number_at}

pub tree_at : (g : GraphTree) (port : ℕ) → IsPortOf g port → numbered g.ports port ≡ Some (port_at g port)
tree_at g port inside =
    let p = number_at g.ports port inside.0 inside.1 in
    p.1 ∙ ap (λ (q : PortTree). Some q) (sym (ap (λ (o : Option PortTree). unwrap_or o no_port) p.1))

pub has_wires : (parts : Parts) → IsAccepted parts → AreWires (widths_of (graph_tree parts.graph)) (wires_of (graph_tree parts.graph))
has_wires parts accepted = are_wires (graph_tree parts.graph) accepted.well_formed accepted.fitting.limits accepted.costs

module _ (parts : Parts) (accepted : IsAccepted parts) (port : ℕ) (inside : IsPortOf (graph_tree parts.graph) port) where
  pub fine_at : IsFinePort (graph_tree parts.graph) (port_at (graph_tree parts.graph) port)
  fine_at =
      let g = graph_tree parts.graph in
      fine_port g (port - 1) (port_at g port) accepted.well_formed (numbered_there g.ports port (port_at g port) (tree_at g port inside)).1

  pub limit_at : IsWithinLimits (port_at (graph_tree parts.graph) port)
  limit_at =
      let g = graph_tree parts.graph in
      all_there IsWithinLimits g.ports (port - 1) (port_at g port) accepted.costs (numbered_there g.ports port (port_at g port) (tree_at g port inside)).1

  pub code_is : IsCodeOf (graph_tree parts.graph) (port_at (graph_tree parts.graph) port) (numbered_or parts.codes port no_code)
  code_is =
      let g = graph_tree parts.graph in
      let count = accepted.codes.count in
      let last = inside.1 in
      let kept = number_at parts.codes port inside.0 (omega arith) in
      subst (IsCodeOf g (port_at g port)) (sym (ap (λ (o : Option PortCode). unwrap_or o no_code) kept.1)) (accepted.codes.each port (port_at g port) (tree_at g port inside) kept.0 kept.1)

-- code that is read is the port's
pub code_read : (parts : Parts) → IsAccepted parts → (port : ℕ) → IsPortOf (graph_tree parts.graph) port → (codes : List PortCode) → codes ≡ parts.codes → (code : Program) → ForCode codes port (λ kept. code ≡ kept.code) → code ≡ code_at parts port
code_read parts accepted port inside codes same code is =
    let count = accepted.codes.count in
    let last = inside.1 in
    let kept = number_at parts.codes port inside.0 (omega arith) in
    is kept.0 (ap (λ (cs : List PortCode). numbered cs port) same ∙ kept.1) ∙ sym (ap (λ (o : Option PortCode). (unwrap_or o no_code).code) kept.1)

pub task_at : (parts : Parts) → IsAccepted parts → (job : Job) → IsPortOf (graph_tree parts.graph) job.task → task_in (tasks_of (graph_tree parts.graph)) job ≡ task_of (graph_tree parts.graph) (port_at (graph_tree parts.graph) job.task)
task_at parts accepted job inside =
    let g = graph_tree parts.graph in
    (port_task g job.task (port_at g job.task) (tree_at g job.task inside)).2
