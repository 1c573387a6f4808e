use Rattle.std.proofs.Common.{sym, ◌∙◌, arith}
use Rattle.yt_log.proofs.Places.{deadline_read}
use Rattle.yt_log.proofs.judge.miss.due_by.Goals.{else-item-upto-via-then-item-upto+else-within-upto, else-item-upto-via-else-item-upto}
use Rattle.yt_log.proofs.judge.miss.due_by.Goals as goal

pub returns-then-within-upto : goal.returns-then-within-upto
returns-then-within-upto c =
    let due = deadline_read c.args.set.now c.args.item.now c.task-task.result c.task-task.ensures.value in
    let told = c.deadline.ensures in
    let within = c.within-within.ensures in
    (told ∙ sym due, omega arith)

pub returns-else-item-upto : goal.returns-else-item-upto
returns-else-item-upto c =
    let due = deadline_read c.args.set.now c.args.item.now c.task-task.result c.task-task.ensures.value in
    let within = c.within-within.ensures in
    elim c.else-item-upto.branch [ else-item-upto-via-then-item-upto+else-within-upto w ↦ omega arith | else-item-upto-via-else-item-upto w ↦ omega arith ]
