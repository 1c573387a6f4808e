use Rattle.std.proofs.Common.{◌≡◌, drop, map}
use Rattle.yt_graph.specs.AstPicture.{port_decl_tree}
use Rattle.yt_admit.specs.Calls.{ports_call}
use Rattle.yt_admit.proofs.calls.ports_call.Given as goal

-- what is left decides
abbrev pub invariant-loop-port : goal.invariant-loop-port
invariant-loop-port l = ports_call (map port_decl_tree (drop l.port-index l.ports)) ≡ ports_call (map port_decl_tree l.ports)
