use Rattle.std.proofs.Common.{sym, ◌∙◌, arith}
use Rattle.yt_log.proofs.HeadSteps.{lowered-some, lowered-none, floor_read}
use Rattle.yt_log.proofs.judge.heads.lowered.Goals as goal

pub returns-in-Some : goal.returns-in-Some
returns-in-Some c =
    let floor = floor_read c.args.set.now c.args.item c.task.result c.floor.result c.task.ensures.value c.floor.ensures in
    let low = lowered-some c.args.due c.args.first _ c.in-Some.floor (floor ∙ c.in-Some.is) in
    let sum = c.saturating_add.ensures in
    let least = c.min.ensures in
    omega arith

pub returns-in-None : goal.returns-in-None
returns-in-None c =
    let floor = floor_read c.args.set.now c.args.item c.task.result c.floor.result c.task.ensures.value c.floor.ensures in
    sym (lowered-none c.args.due c.args.first _ (floor ∙ c.in-None.is))
