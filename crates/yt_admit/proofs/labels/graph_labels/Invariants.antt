use Rattle.std.proofs.Common.{◌≡◌, ◌++◌, map, drop}
use Rattle.yt_graph.specs.Picture.{graph_tree, port_tree}
use Rattle.yt_graph.specs.Labels.{label_of, labels_of}
use Rattle.yt_admit.proofs.labels.graph_labels.Given as goal

-- the names so far, and then those of the ports that are left, are all
abbrev pub invariant-loop-port : goal.invariant-loop-port
invariant-loop-port l = l.labels ++ map label_of (map port_tree (drop l.port-index l.port-items)) ≡ labels_of (graph_tree l.graph)
