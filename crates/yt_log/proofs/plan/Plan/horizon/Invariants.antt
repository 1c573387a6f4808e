use Rattle.std.proofs.Common.{◌≡◌, max, drop}
use Rattle.yt_log.specs.Plan.{horizon}
use Rattle.yt_log.proofs.plan.Plan.horizon.Given as goal

abbrev pub invariant-loop-item : goal.invariant-loop-item
invariant-loop-item l = max l.horizon (horizon l.set (drop l.item-index l.item-items)) ≡ horizon l.set l.item-items
