use Rattle.std.proofs.Common.{◌≡◌, ◌+◌, ◌*◌, ◌≤◌, drop}
use Rattle.std.specs.List.{sum_by}
use Rattle.yt_graph.specs.Picture.{graph_tree}
use Rattle.yt_serial.specs.Bounds.{most_messages}
use Rattle.yt_bound.specs.Bounds.{most_jobs}
use Rattle.yt_bound.specs.Inside.Feeds.{most_fed}
use Rattle.yt_bound.proofs.bound.jobs_of_ports.Given as goal

-- what is added up, and what is left to add
abbrev pub invariant-loop-place : goal.invariant-loop-place
invariant-loop-place l = record {
  summed : l.jobs + sum_by (most_messages (graph_tree l.accepted.graph) l.counted.trace.now) (drop l.place (graph_tree l.accepted.graph).ports) ≡ most_jobs (graph_tree l.accepted.graph) l.counted.trace.now;
  small : l.jobs ≤ l.place * most_fed;
}
