use Rattle.std.proofs.Common.{◌≡◌, ◌++◌, map, drop, length}
use Rattle.yt_graph.specs.AstPicture.{port_decl_tree}
use Rattle.yt_name_faults.specs.Parts.{placed_of, trees}
use Rattle.yt_name_faults.specs.Paths.{placed_from, all_ports}
use Rattle.yt_name_faults.proofs.index.Index.new.Given as goal

abbrev pub invariant-loop-item : goal.invariant-loop-item
invariant-loop-item l = record {
  parts : map placed_of l.parts.items ++ placed_from (length l.ports.items) (trees (drop l.item-index l.all)) ≡ placed_from 0 (trees l.all);
  ports : map (λ p. port_decl_tree p.now) l.ports.items ++ all_ports (trees (drop l.item-index l.all)) ≡ all_ports (trees l.all);
}
