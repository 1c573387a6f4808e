use Rattle.yt_log.specs.Inside.Counts.{AreJudged}
use Rattle.yt_log.proofs.Judged.{AreAhead}
use Rattle.yt_log.proofs.judge.miss.first_miss.Given as goal

-- the first miss of the items so far; no segment passed is of an item to come
abbrev pub invariant-loop-item : goal.invariant-loop-item
invariant-loop-item l = record {
  judged : AreJudged l.set l.plan l.log l.upto l.item-index l.first;
  ahead : AreAhead l.set l.plan l.segments l.item-index l.seen;
}
