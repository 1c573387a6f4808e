use Rattle.std.proofs.Common.{◌≡◌, take}
use Rattle.yt_witness.proofs.plan.in_order.Given as goal

-- the jobs so far
abbrev pub invariant-loop-item : goal.invariant-loop-item
invariant-loop-item l = l.plan ≡ take l.item-index l.items
