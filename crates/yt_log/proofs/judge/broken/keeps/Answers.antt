use Rattle.std.proofs.Common.{sym, ap, ◌∙◌, eqb-true, eq-eqb, arith}
use Rattle.yt_set.specs.declared.task.Task.{Task}
use Rattle.yt_log.specs.Plan.{same_job}
use Rattle.yt_log.specs.Inside.Heads.{item_at}
use Rattle.yt_log.proofs.Demands.{task_read}
use Rattle.yt_log.proofs.Following.{not_same}
use Rattle.yt_log.proofs.judge.broken.keeps.Goals as goal

pub returns-then-ne : goal.returns-then-ne
unfolding item_at same_job
returns-then-ne c =
    let read = task_read _ _ c.task.result c.task.ensures.value in
    let resource = ap (λ (τ : Task). τ.resource) read in (
      λ e. record {
        within = c.if-head-items.false;
        begun = omega (arith, c.if-head-eq0.false);
        differs = not_same _ c.args.job c.if-ne.ensures;
        under = resource ∙ eqb-true _ _ e;
      },
      λ k. eq-eqb _ _ (sym resource ∙ k.under),
    )
