use Rattle.std.proofs.Common.{◌≤◌, length, arith}
use Rattle.yt_set.specs.declared.task.Task.{Task}
use Rattle.yt_fits.specs.Inside.Streams.{IsInRange}
use Rattle.yt_fits.proofs.IntervalLemmas.{all_next, all_taken, all_wider}
use Rattle.yt_fits.proofs.dearest.dearest_cost.Goals as goal

pub loop-n-preserved : goal.loop-n-preserved
loop-n-preserved c =
    let set = c.args.set.now in
    let span = c.args.span in
    let more = c.dearer-cost.ensures.cost in
    let IsNoDearer : Task → Type 0 = λ t. IsInRange set span t → t.cost ≤ c.dearer-cost.result in
    record {
      dearest = all_next IsNoDearer set c.loop-n.n c.task.result c.task.ensures.value
          (all_wider (λ (t : Task). IsInRange set span t → t.cost ≤ c.loop-n.cost) IsNoDearer _ (λ t less range. let h = less range in omega arith) c.loop-n.invariant.dearest)
          c.dearer-cost.ensures.task;
      cost = c.dearer-cost.ensures.bound c.task.ensures.in_range.1 c.loop-n.invariant.cost;
    }

pub returns-clause-dearest : goal.returns-clause-dearest
returns-clause-dearest c =
    let out : length c.args.set.now ≤ c.loop-n.n = omega (arith, c.len-n-end.ensures.len, c.loop-n-test.false) in
    all_taken (λ (t : Task). IsInRange c.args.set.now c.args.span t → t.cost ≤ c.loop-n.cost) c.args.set.now c.loop-n.n out c.loop-n.invariant.dearest
