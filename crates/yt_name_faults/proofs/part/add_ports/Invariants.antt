use Rattle.std.proofs.Common.{◌≡◌, ◌++◌, map, drop}
use Rattle.yt_graph.specs.AstPicture.{port_decl_tree}
use Rattle.yt_name_faults.proofs.part.add_ports.Given as goal

abbrev pub invariant-loop-decl : goal.invariant-loop-decl
invariant-loop-decl l = record {
  all : map (λ p. port_decl_tree p.now) l.all.items ++ map port_decl_tree (drop l.decl-index l.decls) ≡ map (λ p. port_decl_tree p.now) l.fn.all.items ++ map port_decl_tree l.decls;
  ports : map (λ p. p.decl.now) l.ports.items ++ drop l.decl-index l.decls ≡ l.decls;
}
