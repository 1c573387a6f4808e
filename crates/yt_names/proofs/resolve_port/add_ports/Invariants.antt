use Rattle.std.proofs.Common.{◌≡◌, ◌++◌, map, drop}
use Rattle.yt_graph.specs.Picture.{port_tree}
use Rattle.yt_name_faults.specs.Parts.{port_of, trees}
use Rattle.yt_names.specs.Resolved.{resolved_port}
use Rattle.yt_names.proofs.resolve_port.add_ports.Given as goal

abbrev pub invariant-loop-part : goal.invariant-loop-part
invariant-loop-part l =
    map port_tree l.ports ++ map (resolved_port (trees l.heads.index.now) l.owner.name.now.text l.owner.key.now.text l.heads.ops.now l.owner.vars.now l.owner.first) (map port_of (drop l.part-index l.parts))
    ≡ map port_tree l.fn.ports ++ map (resolved_port (trees l.heads.index.now) l.owner.name.now.text l.owner.key.now.text l.heads.ops.now l.owner.vars.now l.owner.first) (map port_of l.parts)
