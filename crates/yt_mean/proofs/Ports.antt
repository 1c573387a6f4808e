-- The port of a number in a graph's picture.
use Rattle.std.proofs.Common.{◌≡◌, ℕ, ◌-◌, ◌≤◌, List, Some, ap, ◌∙◌}
use Rattle.std.specs.Prelude.{map, slice_get}
use Rattle.std.specs.Option.{option_map}
use Rattle.std.proofs.lemmas.Option.{slice_get-map}
use Rattle.yt_list.specs.Numbered.{numbered}
use Rattle.yt_list.proofs.Lemmas.{numbered_place}
use Rattle.yt_graph.specs.declared.port.Port.{Port}
use Rattle.yt_graph.specs.Picture.{PortTree, port_tree}

pub port_is : (ports : List Port) (n : ℕ) (port : Port) → 1 ≤ n → slice_get ports (n - 1) ≡ Some port → numbered (map port_tree ports) n ≡ Some (port_tree port)
port_is ports n port some is =
    numbered_place (map port_tree ports) n some ∙ (slice_get-map port_tree ports (n - 1) ∙ ap (option_map port_tree) is)

-- so it is the one port that is there
pub same_port : (ports : List Port) (n : ℕ) (port : Port) (p : PortTree) → 1 ≤ n → slice_get ports (n - 1) ≡ Some port → numbered (map port_tree ports) n ≡ Some p → port_tree port ≡ p
same_port ports n port p some is h = let there = port_is ports n port some is in cc
