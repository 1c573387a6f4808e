use Rattle.std.proofs.Common.{◌≤◌, ◌+◌, ◌*◌, length, arith}
use Rattle.yt_set.specs.declared.task.Task.{Task}
use Rattle.yt_set.specs.Tasks.{jobs_due, within}
use Rattle.yt_fits.proofs.IntervalLemmas.{all_next, all_taken, all_wider}
use Rattle.yt_fits.proofs.interval.next_point.Goals as goal

pub loop-n-preserved : goal.loop-n-preserved
loop-n-preserved c =
    let e = c.min-next.ensures in
    let due = c.next_due.ensures.value in
    let later = c.next_due.ensures.later in
    let was = c.loop-n.invariant.later in
    let end = c.loop-n.invariant.end in
    let point = c.args.point in
    let IsNoLater : Task → Type 0 = λ t. c.min-next.result ≤ jobs_due t point * t.period + within t in
    record {
      later = omega arith;
      end = omega arith;
      first = all_next IsNoLater c.args.set.now c.loop-n.n c.task.result c.task.ensures.value
          (all_wider (λ (t : Task). c.loop-n.next ≤ jobs_due t point * t.period + within t) IsNoLater _ (λ t le. omega arith) c.loop-n.invariant.first)
          (omega arith);
    }

pub returns-clause-first : goal.returns-clause-first
returns-clause-first c =
    let out : length c.args.set.now ≤ c.loop-n.n = omega (arith, c.len-n-end.ensures.len, c.loop-n-test.false) in
    all_taken (λ (t : Task). c.loop-n.next ≤ jobs_due t c.args.point * t.period + within t) c.args.set.now c.loop-n.n out c.loop-n.invariant.first
