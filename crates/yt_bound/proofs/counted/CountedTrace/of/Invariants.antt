use Rattle.std.proofs.Common.{drop}
use Rattle.yt_bound.specs.Inside.Counting.{AreCounted}
use Rattle.yt_bound.proofs.counted.CountedTrace.of.Given as goal

-- the messages before this one are counted
abbrev pub invariant-loop-message : goal.invariant-loop-message
invariant-loop-message l = AreCounted l.trace (drop l.message-index l.trace) l.counts
