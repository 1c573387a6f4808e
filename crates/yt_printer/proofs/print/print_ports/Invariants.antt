use Rattle.std.proofs.Common.{◌≡◌, ◌++◌, drop, map, true}
use Rattle.std.specs.List.{flat_map, list_all}
use Rattle.yt_graph.specs.AstPicture.{port_decl_tree}
use Rattle.yt_grammar.specs.Writable.{is_port}
use Rattle.yt_grammar.specs.CanonicalText.{port_layout, text_of}
use Rattle.yt_printer.proofs.print.print_ports.Given as goal

-- what was put so far, and then the ports that are left, is all
abbrev pub invariant-loop-port : goal.invariant-loop-port
invariant-loop-port l = record {
  so_far : l.out ++ text_of (flat_map port_layout (map port_decl_tree (drop l.port-index l.ports))) ≡ l.initial.out ++ text_of (flat_map port_layout (map port_decl_tree l.ports));
  writable : list_all is_port (map port_decl_tree (drop l.port-index l.ports)) ≡ true;
}
