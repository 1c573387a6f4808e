use Rattle.std.proofs.Common.{◌≡◌, ◌++◌, drop}
use Rattle.std.specs.List.{flat_map}
use Rattle.yt_name_faults.specs.Parts.{trees}
use Rattle.yt_names.specs.Resolved.{outputs_of}
use Rattle.yt_names.proofs.heads.resolve_outputs.Given as goal

abbrev pub invariant-loop-item : goal.invariant-loop-item
invariant-loop-item l = l.outputs ++ flat_map (outputs_of (trees l.index)) (trees (drop l.item-index l.items)) ≡ flat_map (outputs_of (trees l.index)) (trees l.items)
