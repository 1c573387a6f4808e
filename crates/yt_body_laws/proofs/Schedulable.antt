-- An accepted graph can be run on each trace that keeps its periods.
use Rattle.std.proofs.Common.{List, All, subst, arith}
use Rattle.std.proofs.lemmas.List.{length-map}
use Rattle.std.proofs.lemmas.List.Elements.{All-map}
use Rattle.yt_graph.specs.Picture.{PortTree}
use Rattle.yt_set.specs.Tasks.{Fits, IsTask, IsTaskSet}
use Rattle.yt_log.proofs.Lemmas.{fits_keeps}
use Rattle.yt_rates.specs.Acceptance.{IsAccepted, Parts}
use Rattle.yt_rates.specs.Tables.{task_of, tasks_of}
use Rattle.yt_trace.specs.declared.message.Message.{Message}
use Rattle.yt_trace.specs.Traces.{KeepsPeriods}
use Rattle.yt_serial.specs.Premises.{IsSchedulable}
use Rattle.yt_body_laws.proofs.Codes.{graph_in}

module _ (parts : Parts) (accepted : IsAccepted parts) where
  each_task : All (λ (p : PortTree). IsTask (task_of (graph_in parts) p)) (graph_in parts).ports
  each_task k d lt =
      let rates = accepted.fitting.limits k d lt in
      let cost = (accepted.costs k d lt).ticks in
      let some = rates.some_period in
      let period = rates.period in
      (omega arith, cost, some, period)

  are_tasks : IsTaskSet (tasks_of (graph_in parts))
  are_tasks =
      let g = graph_in parts in
      let long = length-map g.ports (task_of g) in
      let few = accepted.well_formed.counts.ports in
      (omega arith, All-map IsTask (task_of g) g.ports each_task)

  pub schedulable : (trace : List Message) → KeepsPeriods (graph_in parts) trace → IsSchedulable (graph_in parts) trace
  schedulable trace keeps = record {
    can = record { well_formed = accepted.well_formed; rates = accepted.fitting.limits; keeps = keeps };
    keeps = fits_keeps (tasks_of (graph_in parts)) are_tasks (subst Fits accepted.fitting.set accepted.fitting.fits);
  }
