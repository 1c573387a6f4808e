use Rattle.std.proofs.Common.{refl, sym}
use Rattle.yt_graph.specs.AstPicture.{ast_tree}
use Rattle.yt_graph.specs.Picture.{graph_tree}
use Rattle.yt_admit.specs.Causes.{misnamed, costly, misrated}
use Rattle.yt_admit.proofs.Answered.{stage_refusal}
use Rattle.yt_admit.proofs.admission.admit_tree.Goals as goal

pub returns-in_ok-name_line-in-Misnamed : goal.returns-in_ok-name_line-in-Misnamed
returns-in_ok-name_line-in-Misnamed c =
    let is = rw c.in-Misnamed.is at c.in_ok-fault.ensures.stage in
    stage_refusal (ast_tree c.args.ast) (misnamed c.in-Misnamed.fault (sym is)) c.refused.result c.in_ok-name_line-in-Misnamed.field-0 c.refused.ensures c.in_ok-name_line-in-Misnamed.ensures refl

pub returns-in_ok-cost_line-in-Costly : goal.returns-in_ok-cost_line-in-Costly
returns-in_ok-cost_line-in-Costly c =
    let is = rw c.in-Costly.is at c.in_ok-fault.ensures.stage in
    stage_refusal (ast_tree c.args.ast) (costly (graph_tree c.in-Costly.graph) c.in-Costly.fault (sym is)) c.refused-in-Costly.result c.in_ok-cost_line-in-Costly.field-0 c.refused-in-Costly.ensures
    c.in_ok-cost_line-in-Costly.ensures refl

pub returns-in_ok-rate_line-in-Misrated : goal.returns-in_ok-rate_line-in-Misrated
returns-in_ok-rate_line-in-Misrated c =
    let is = rw c.in-Misrated.is at c.in_ok-fault.ensures.stage in
    stage_refusal (ast_tree c.args.ast) (misrated (graph_tree c.in-Misrated.graph) c.in-Misrated.fault (sym is)) c.refused-in-Misrated.result c.in_ok-rate_line-in-Misrated.field-0 c.refused-in-Misrated.ensures
    c.in_ok-rate_line-in-Misrated.ensures refl
