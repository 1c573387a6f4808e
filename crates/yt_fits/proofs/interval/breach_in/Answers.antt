use Rattle.std.proofs.Common.{length, ◌≤◌, arith}
use Rattle.std.proofs.lemmas.Bool.{both_ways}
use Rattle.yt_set.specs.declared.task.Task.{Task}
use Rattle.yt_set.specs.Tasks.{LacksRoom}
use Rattle.yt_fits.proofs.IntervalLemmas.{all_next, all_taken}
use Rattle.yt_fits.proofs.interval.breach_in.Goals as goal

pub loop-n-preserved : goal.loop-n-preserved
loop-n-preserved c =
    all_next (λ (t : Task). LacksRoom c.args.set.now c.args.span t → ⊥) c.args.set.now c.loop-n.n c.task-task.result c.task-task.ensures.value c.loop-n.invariant
    (λ lacks. absurd (both_ways _ c.if-lacks_room.false (c.lacks_room.ensures.1 lacks)))

pub returns-clause-none : goal.returns-clause-none
returns-clause-none c = λ none.
    let out : length c.args.set.now ≤ c.loop-n.n = omega (arith, c.len-n-end.ensures.len, c.loop-n-test.false) in
    all_taken (λ (t : Task). LacksRoom c.args.set.now c.args.span t → ⊥) c.args.set.now c.loop-n.n out c.loop-n.invariant
