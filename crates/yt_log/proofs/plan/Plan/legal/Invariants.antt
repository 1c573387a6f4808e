use Rattle.std.proofs.Common.{take, drop, reverse}
use Rattle.yt_log.specs.Inside.LastJobs.{AreLast}
use Rattle.yt_log.proofs.PlanJudging.{IsJudged}
use Rattle.yt_log.proofs.plan.Plan.legal.Given as goal

abbrev pub invariant-loop-item : goal.invariant-loop-item
invariant-loop-item l = record {
  last : AreLast l.last.jobs (reverse (take l.item-index l.item-items));
  judged : IsJudged l.set l.item-items (reverse (take l.item-index l.item-items)) (drop l.item-index l.item-items);
}
