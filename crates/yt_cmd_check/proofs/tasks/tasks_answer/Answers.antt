use Rattle.yt_graph.specs.AstPicture.{ast_tree}
use Rattle.yt_graph.specs.Picture.{graph_tree}
use Rattle.yt_cmd_check.proofs.Answered.{tasks_due, tasks_refused}
use Rattle.yt_cmd_check.proofs.tasks.tasks_answer.Goals as goal

pub returns-in-Refused : goal.returns-in-Refused
returns-in-Refused c = tasks_refused c.args.bytes.now c.in-Refused.answer (rw c.in-Refused.is at c.in_ok-answer.ensures)

pub returns-in-Unfit : goal.returns-in-Unfit
returns-in-Unfit c =
    let h = rw c.in-Unfit.is at c.in_ok-answer.ensures in
    tasks_due c.args.bytes.now h.0.0 (graph_tree c.in-Unfit.graph) c.done.result c.in_ok-tasks_text-in-Unfit.field-0 h.0.1 c.done.ensures c.in_ok-tasks_text-in-Unfit.ensures

pub returns : goal.returns
returns c =
    let h = rw c.in-Accepted.is at c.in_ok-answer.ensures in
    let same = c.graph.ensures.graph in
    tasks_due c.args.bytes.now (ast_tree c.in-Accepted.field-0) (graph_tree c.graph.result.now) c.done-in-Accepted.result c.in_ok-tasks_text-in-Accepted.field-0 (rw same h.0) c.done-in-Accepted.ensures c.in_ok-tasks_text-in-Accepted.ensures
