use Rattle.std.proofs.Common.{◌≡◌, ◌++◌, map, drop, length}
use Rattle.yt_graph.specs.Picture.{port_tree}
use Rattle.yt_name_faults.specs.Parts.{tree_of, trees}
use Rattle.yt_names.specs.Resolved.{resolved_vars, resolved_ports}
use Rattle.yt_names.proofs.resolving.resolve_parts.Given as goal

abbrev pub invariant-loop-part : goal.invariant-loop-part
invariant-loop-part l = record {
  vars : l.vars ++ resolved_vars (map tree_of (drop l.part-index l.part-items)) ≡ resolved_vars (trees l.heads.index.now);
  ports : map port_tree l.ports ++ resolved_ports (trees l.heads.index.now) l.heads.ops.now (length l.vars) (map tree_of (drop l.part-index l.part-items)) ≡ resolved_ports (trees l.heads.index.now) l.heads.ops.now 0 (trees l.heads.index.now);
}
