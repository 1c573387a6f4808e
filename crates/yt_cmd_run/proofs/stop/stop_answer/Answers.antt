use Rattle.yt_cmd_run.specs.Runs.{IsStop}
use Rattle.yt_cmd_run.proofs.Answered.{told_due, told_refused}
use Rattle.yt_cmd_run.proofs.stop.stop_answer.Goals as goal

pub returns-in-Run : goal.returns-in-Run
returns-in-Run c =
    told_due (λ g messages line. IsStop g messages c.args.tick line) c.args.graph.now c.args.trace.now c.in-Run.accepted c.in-Run.trace c.stopped_answer.result
    (rw c.in-Run.is at c.in_ok-accepted.ensures) c.stopped_answer.ensures.done c.stopped_answer.ensures.stop

pub returns-in-Refused : goal.returns-in-Refused
returns-in-Refused c =
    told_refused (λ g messages line. IsStop g messages c.args.tick line) c.args.graph.now c.args.trace.now c.in-Refused.answer.verdict c.in-Refused.answer.text
    (rw c.in-Refused.is at c.in_ok-accepted.ensures)
