use Rattle.std.proofs.Common.{sym, ap, ◌∙◌, arith}
use Rattle.yt_log.specs.declared.plan.PlanItem.{PlanItem}
use Rattle.yt_log.specs.Plan.{same_job}
use Rattle.yt_log.specs.Inside.Heads.{item_at}
use Rattle.yt_log.proofs.Jobs.{same_job_true}
use Rattle.yt_log.proofs.Places.{has_place, placed}
use Rattle.yt_log.proofs.judge.broken.find.Goals as goal

pub returns-then-eq-clause-some : goal.returns-then-eq-clause-some
unfolding item_at same_job
returns-then-eq-clause-some c = (has_place c.args.items.now c.loop-item.item-index c.loop-item-test.true, same_job_true _ c.args.job (sym c.if-eq.ensures))

pub returns-clause-none : goal.returns-clause-none
unfolding item_at
returns-clause-none c = λ item has e.
    let p = placed c.args.items.now item has in
    let w = p.within in
    c.loop-item.invariant p.place (omega arith) (ap (λ (i : PlanItem). i.job) p.is ∙ e)
