use Rattle.std.proofs.Common.{◌≤◌, length, arith}
use Rattle.yt_set.specs.declared.task.Task.{Task}
use Rattle.yt_set.specs.Tasks.{within}
use Rattle.yt_fits.proofs.IntervalLemmas.{all_next, all_taken, all_wider}
use Rattle.yt_fits.proofs.dearest.next_within.Goals as goal

pub loop-n-preserved : goal.loop-n-preserved
loop-n-preserved c =
    let set = c.args.set.now in
    let span = c.args.span in
    let less = c.nearer-next.ensures.next in
    let IsNoEarlier : Task → Type 0 = λ t. span ≤ within t → c.nearer-next.result ≤ within t in
    record {
      later = c.nearer-next.ensures.later c.loop-n.invariant.later;
      least = all_next IsNoEarlier set c.loop-n.n c.task.result c.task.ensures.value
          (all_wider (λ (t : Task). span ≤ within t → c.loop-n.next ≤ within t) IsNoEarlier _ (λ t far long. let h = far long in omega arith) c.loop-n.invariant.least)
          c.nearer-next.ensures.task;
    }

pub returns-clause-least : goal.returns-clause-least
returns-clause-least c =
    let out : length c.args.set.now ≤ c.loop-n.n = omega (arith, c.len-n-end.ensures.len, c.loop-n-test.false) in
    all_taken (λ (t : Task). c.args.span ≤ within t → c.loop-n.next ≤ within t) c.args.set.now c.loop-n.n out c.loop-n.invariant.least
