use Rattle.std.proofs.Common.{◌≡◌, ◌++◌, map, drop}
use Rattle.yt_graph.specs.AstPicture.{port_decl_tree}
use Rattle.yt_name_faults.specs.Parts.{trees}
use Rattle.yt_name_faults.specs.Paths.{befores}
use Rattle.yt_name_faults.proofs.rules.befores.Given as goal

abbrev pub invariant-loop-port : goal.invariant-loop-port
invariant-loop-port l = l.all.items ++ befores (trees l.index) (map (λ p. port_decl_tree p.now) (drop l.port-index l.ports)) ≡ befores (trees l.index) (map (λ p. port_decl_tree p.now) l.ports)
