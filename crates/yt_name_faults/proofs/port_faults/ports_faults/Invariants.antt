use Rattle.std.proofs.Common.{◌≡◌, ◌+◌, map, drop}
use Rattle.yt_graph.specs.AstPicture.{item_tree}
use Rattle.yt_name_faults.specs.First.{least_with}
use Rattle.yt_name_faults.specs.Parts.{port_of, trees}
use Rattle.yt_name_faults.specs.Paths.{ports_of}
use Rattle.yt_name_faults.specs.Faults.{ports_faults}
use Rattle.yt_name_faults.proofs.port_faults.ports_faults.Given as goal

abbrev pub invariant-loop-n : goal.invariant-loop-n
invariant-loop-n l =
    least_with (ports_faults (trees l.rules.index.now) l.rules.ops.now l.part.vars (ports_of (item_tree l.part.item.now)) l.part.first (l.part.first + l.n) l.left (map port_of (drop l.n l.port-items))) l.least
    ≡ least_with (ports_faults (trees l.rules.index.now) l.rules.ops.now l.part.vars (ports_of (item_tree l.part.item.now)) l.part.first l.part.first l.fn.left (ports_of (item_tree l.part.item.now))) l.fn.least
