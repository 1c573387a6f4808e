use Rattle.std.proofs.Common.{◌≤◌, ◌/◌, ℕ, arith}
use Rattle.yt_witness.proofs.Places.{all_at, blocker_at, other_at}
use Rattle.yt_witness.proofs.arrivals.arrive.Goals as goal

part_of : (x p most : ℕ) → 1 ≤ p → x ≤ most → x / p ≤ most
part_of x p most some le = omega arith

pub returns-in-All-clause-arrivals : goal.returns-in-All-clause-arrivals
returns-in-All-clause-arrivals c =
    let tasks = c.args.set.now in
    let n = c.args.task in
    let e = c.in-All.is in
    let f = c.from.ensures in
    let at = all_at tasks c.in-All.upto n c.task-its.result c.task-its.ensures.value in
    grind (arith, at)

pub returns-then-task-once-clause-arrivals : goal.returns-then-task-once-clause-arrivals
returns-then-task-once-clause-arrivals c =
    let at = blocker_at c.args.set.now c.in-Blocker.once c.in-Blocker.upto c.args.task c.task-its.result c.task-its.ensures.value c.if-task-once.true in
    let e = c.in-Blocker.is in
    grind (arith, at)

pub returns-else-task-once-clause-arrivals : goal.returns-else-task-once-clause-arrivals
returns-else-task-once-clause-arrivals c =
    let at = other_at c.args.set.now c.in-Blocker.once c.in-Blocker.upto c.args.task c.task-its.result c.task-its.ensures.value c.if-task-once.false in
    let e = c.in-Blocker.is in
    let f = c.from-else-task-once.ensures in
    grind (arith, at)
