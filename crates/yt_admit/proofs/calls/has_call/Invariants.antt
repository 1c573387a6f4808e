use Rattle.std.proofs.Common.{◌≡◌, drop, map}
use Rattle.yt_graph.specs.AstPicture.{item_tree}
use Rattle.yt_admit.specs.Calls.{has_call}
use Rattle.yt_admit.proofs.calls.has_call.Given as goal

-- what is left decides
abbrev pub invariant-loop-item : goal.invariant-loop-item
invariant-loop-item l = has_call (map item_tree (drop l.item-index l.item-items)) ≡ has_call (map item_tree l.item-items)
