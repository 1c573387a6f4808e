use Rattle.std.proofs.Common.{◌≡◌, ◌+◌, ◌*◌, ◌≤◌, drop}
use Rattle.std.specs.List.{sum_by}
use Rattle.yt_graph.specs.Picture.{graph_tree}
use Rattle.yt_bound.specs.Bounds.{most_lines, most_shown}
use Rattle.yt_bound.specs.Inside.Feeds.{most_fed}
use Rattle.yt_bound.proofs.bound.lines_of_outputs.Given as goal

-- what is added up, and what is left to add
abbrev pub invariant-loop-place : goal.invariant-loop-place
invariant-loop-place l = record {
  summed : l.lines + sum_by (most_shown (graph_tree l.accepted.graph) l.counted.trace.now) (drop l.place (graph_tree l.accepted.graph).outputs) ≡ most_lines (graph_tree l.accepted.graph) l.counted.trace.now;
  small : l.lines ≤ l.place * most_fed;
}
