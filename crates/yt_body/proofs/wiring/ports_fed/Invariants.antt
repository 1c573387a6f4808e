use Rattle.std.proofs.Common.{◌≡◌, ◌+◌, ◌++◌, drop, map}
use Rattle.yt_graph.specs.Picture.{port_tree}
use Rattle.yt_body.specs.Wiring.{is_fed, numbers_where, ports_fed}
use Rattle.yt_body.proofs.wiring.ports_fed.Given as goal

abbrev pub invariant-loop-place : goal.invariant-loop-place
invariant-loop-place l =
    l.numbers ++ numbers_where (λ p. is_fed l.port l.out p.feed) (l.place + 1) (drop l.place (map port_tree l.ports)) ≡ ports_fed l.port l.out (map port_tree l.ports)
