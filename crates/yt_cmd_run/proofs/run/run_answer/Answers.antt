use Rattle.yt_cmd_run.specs.Runs.{IsRun}
use Rattle.yt_cmd_run.proofs.Answered.{told_due, told_refused}
use Rattle.yt_cmd_run.proofs.run.run_answer.Goals as goal

pub returns-in-Run : goal.returns-in-Run
returns-in-Run c =
    told_due IsRun c.args.graph.now c.args.trace.now c.in-Run.accepted c.in-Run.trace c.told_answer.result (rw c.in-Run.is at c.in_ok-accepted.ensures) c.told_answer.ensures.done c.told_answer.ensures.run

pub returns-in-Refused : goal.returns-in-Refused
returns-in-Refused c = told_refused IsRun c.args.graph.now c.args.trace.now c.in-Refused.answer.verdict c.in-Refused.answer.text (rw c.in-Refused.is at c.in_ok-accepted.ensures)
