use Rattle.std.proofs.Common.{take}
use Rattle.yt_exec.proofs.Countings.{IsCounted}
use Rattle.yt_exec.proofs.counts.rows_of.Given as goal

abbrev pub invariant-loop-item : goal.invariant-loop-item
invariant-loop-item l = IsCounted l.set (take l.item-index l.plan) l.rows.items
