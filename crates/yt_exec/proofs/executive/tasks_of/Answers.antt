use Rattle.std.proofs.Common.{arith}
use Rattle.std.proofs.lemmas.Grind.{common_steps}
use Rattle.std.proofs.lemmas.Option.{gets}
use Rattle.yt_list.proofs.Lemmas.{numbered_next}
use Rattle.yt_exec.proofs.executive.tasks_of.Goals as goal

pub loop-task-preserved : goal.loop-task-preserved
loop-task-preserved c = grind (arith, common_steps, gets, numbered_next)
