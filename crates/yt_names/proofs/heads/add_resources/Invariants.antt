use Rattle.std.proofs.Common.{◌≡◌, ◌++◌, drop}
use Rattle.std.specs.List.{flat_map}
use Rattle.yt_name_faults.specs.Parts.{trees}
use Rattle.yt_names.specs.Resolved.{resources_of}
use Rattle.yt_names.proofs.heads.add_resources.Given as goal

abbrev pub invariant-loop-item : goal.invariant-loop-item
invariant-loop-item l = l.groups ++ flat_map resources_of (trees (drop l.item-index l.items)) ≡ l.fn.groups ++ flat_map resources_of (trees l.items)
