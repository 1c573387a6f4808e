use Rattle.yt_graph.specs.AstPicture.{ast_tree}
use Rattle.yt_graph.specs.Picture.{graph_tree}
use Rattle.yt_cmd_check.proofs.Answered.{check_accepted, check_refused, check_unfit}
use Rattle.yt_cmd_check.proofs.check.check_answer.Goals as goal

pub returns-in-Refused : goal.returns-in-Refused
returns-in-Refused c = check_refused c.args.bytes.now c.in-Refused.answer (rw c.in-Refused.is at c.in_ok-answer.ensures)

pub returns-in-Unfit : goal.returns-in-Unfit
returns-in-Unfit c =
    let h = rw c.in-Unfit.is at c.in_ok-answer.ensures in
    check_unfit c.args.bytes.now h.0.0 (graph_tree c.in-Unfit.graph) c.in-Unfit.why c.unfit_graph_answer.result h.0.1 (rw h.2 at h.3) c.unfit_graph_answer.ensures.verdict c.unfit_graph_answer.ensures.text

pub returns : goal.returns
returns c =
    let h = rw c.in-Accepted.is at c.in_ok-answer.ensures in
    check_accepted c.args.bytes.now (ast_tree c.in-Accepted.field-0) c.in-Accepted.accepted c.set-in-Accepted.result.now c.accepted_answer.result h.0 h.1 c.set-in-Accepted.ensures.set c.accepted_answer.ensures
