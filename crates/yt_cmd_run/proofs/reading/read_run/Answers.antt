use Rattle.std.proofs.Common.{List, subst}
use Rattle.std.specs.Prelude.{Ok}
use Rattle.yt_fits.specs.Unfits.{IsReason}
use Rattle.yt_graph.specs.Picture.{graph_tree}
use Rattle.yt_set.specs.declared.task.Task.{Task}
use Rattle.yt_cmd_run.proofs.Answered.{text_accepted, text_refused, text_unfit}
use Rattle.yt_cmd_run.proofs.reading.read_run.Goals as goal

pub returns-in-Refused : goal.returns-in-Refused
returns-in-Refused c = text_refused c.args.graph.now c.args.trace.now c.in-Refused.answer (rw c.in-Refused.is at c.in_ok-answer.ensures)

pub returns-in-Unfit : goal.returns-in-Unfit
returns-in-Unfit c =
    let is = rw c.in-Unfit.is at c.in_ok-answer.ensures in
    let answer = c.in_ok-unfit_graph_answer-in-Unfit in
    text_unfit {E = Unit {0}} c.args.graph.now c.args.trace.now is.0.0 (graph_tree c.in-Unfit.graph) c.in-Unfit.why (Ok answer.field-0) is.0.1
    (subst (λ (ts : List Task). IsReason ts c.in-Unfit.why) is.2 is.3) answer.ensures.verdict answer.ensures.text

pub returns : goal.returns
returns c =
    let is = rw c.in-Accepted.is at c.in_ok-answer.ensures in
    text_accepted c.args.graph.now c.args.trace.now _ c.in-Accepted.accepted c.read_traced.result is.0 is.1 c.read_traced.ensures
