use Rattle.std.proofs.Common.{◌≡◌, ◌++◌, length, map, drop}
use Rattle.std.specs.List.{All}
use Rattle.yt_graph.specs.Picture.{graph_tree}
use Rattle.yt_set.specs.Tasks.{IsTask}
use Rattle.yt_rates.specs.Tables.{task_of, tasks_of}
use Rattle.yt_rates.proofs.tasks.task_set.Given as goal

abbrev pub invariant-loop-place : goal.invariant-loop-place
invariant-loop-place l = record {
  mapped : l.tasks.items ++ map (task_of (graph_tree l.graph)) (drop l.place (graph_tree l.graph).ports) ≡ tasks_of (graph_tree l.graph);
  count : length l.tasks.items ≡ l.place;
  in_range : All IsTask l.tasks.items;
}
