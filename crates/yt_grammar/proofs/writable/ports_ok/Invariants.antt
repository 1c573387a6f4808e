use Rattle.std.proofs.Common.{◌≡◌, drop, map}
use Rattle.std.specs.List.{list_all}
use Rattle.yt_graph.specs.AstPicture.{port_decl_tree}
use Rattle.yt_grammar.specs.Writable.{is_port}
use Rattle.yt_grammar.proofs.writable.ports_ok.Given as goal

-- what is left decides
abbrev pub invariant-loop-port : goal.invariant-loop-port
invariant-loop-port l = list_all is_port (map port_decl_tree (drop l.port-index l.ports)) ≡ list_all is_port (map port_decl_tree l.ports)
