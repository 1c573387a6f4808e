use Rattle.std.proofs.Common.{◌≡◌, ◌++◌, drop}
use Rattle.yt_name_faults.specs.Parts.{trees}
use Rattle.yt_names.specs.Resolved.{resolved_inputs}
use Rattle.yt_names.proofs.heads.resolve_inputs.Given as goal

abbrev pub invariant-loop-item : goal.invariant-loop-item
invariant-loop-item l = l.inputs ++ resolved_inputs (trees (drop l.item-index l.items)) ≡ resolved_inputs (trees l.items)
