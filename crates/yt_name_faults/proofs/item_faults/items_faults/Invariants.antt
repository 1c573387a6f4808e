use Rattle.std.proofs.Common.{◌≡◌, map, drop}
use Rattle.yt_name_faults.specs.First.{least_with}
use Rattle.yt_name_faults.specs.Parts.{placed_of, trees}
use Rattle.yt_name_faults.specs.Faults.{full_room, items_faults}
use Rattle.yt_name_faults.proofs.item_faults.items_faults.Given as goal

abbrev pub invariant-loop-n : goal.invariant-loop-n
invariant-loop-n l =
    least_with (items_faults (trees l.rules.index.now) l.rules.ops.now l.n l.room (map placed_of (drop l.n l.parts))) l.least
    ≡ least_with (items_faults (trees l.rules.index.now) l.rules.ops.now 0 full_room (map placed_of l.parts)) l.fn.least
