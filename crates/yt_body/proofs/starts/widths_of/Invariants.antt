use Rattle.std.proofs.Common.{◌≡◌, map, take}
use Rattle.yt_graph.specs.declared.port.Port.{Port}
use Rattle.yt_body.proofs.starts.widths_of.Given as goal

abbrev pub invariant-loop-port : goal.invariant-loop-port
invariant-loop-port l = l.widths.items ≡ map (λ (p : Port). p.params) (take l.port-index l.ports)
