use Rattle.std.proofs.Common.{◌≡◌, ◌≢◌, sym, ap, subst, ◌∙◌}
use Rattle.yt_graph.specs.AstPicture.{ast_tree}
use Rattle.yt_graph.specs.Picture.{graph_tree}
use Rattle.yt_cost.specs.declared.fault.CostFault.TheVariants.{Memory}
use Rattle.yt_cost.specs.CodeFit.{HasNoCalls}
use Rattle.yt_rates.specs.Faults.{rate_fault}
use Rattle.yt_admit.specs.declared.judging.Judged.{Judged}
use Rattle.yt_admit.specs.declared.judging.Judged.TheVariants.{Costly}
use Rattle.yt_admit.specs.Stages.{behind_rates, stage_of}
use Rattle.yt_admit.specs.Inside.Judged.{stage_found}
use Rattle.yt_admit.proofs.Lemmas.{if_ok_from}
use Rattle.yt_admit.proofs.ResolvedCalls.{resolved_lacks_calls}
use Rattle.yt_admit.proofs.StageLemmas.{behind_cost, costs_pass}
use Rattle.yt_admit.proofs.judging.judge.Goals as goal

pub compile-requires-clause-no_calls : goal.compile-requires-clause-no_calls
compile-requires-clause-no_calls c = subst HasNoCalls (sym c.in-Ok.ensures.ok.1) (resolved_lacks_calls (ast_tree c.args.ast.now))

pub returns-in-Ok-compile-clause-stage : goal.returns-in-Ok-compile-clause-stage
returns-in-Ok-compile-clause-stage c =
    let graph = graph_tree c.in-Ok.graph in
    let items = ast_tree c.args.ast.now in
    if_ok_from (λ (s : Judged). stage_found s ≡ behind_rates graph (rate_fault graph)) (λ (s : Judged). stage_found s ≡ stage_of items) c.rated.result
    (λ s h. h ∙ costs_pass items graph c.in-Ok.ensures.ok.0 c.in-Ok.ensures.ok.1 c.in-Ok-compile.ensures.no_fault)
    c.rated.ensures.stage

pub returns-in-Err-compile-clause-stage : goal.returns-in-Err-compile-clause-stage
returns-in-Err-compile-clause-stage c =
    let graph = graph_tree c.in-Ok.graph in
    let items = ast_tree c.args.ast.now in
    if_ok_from (λ (s : Judged). (s ≡ Costly c.in-Ok.graph c.in-Err-compile.fault) × (c.in-Err-compile.fault ≢ Memory)) (λ (s : Judged). stage_found s ≡ stage_of items) c.costly.result
    (λ s h. ap stage_found h.0 ∙ behind_cost items graph c.in-Err-compile.fault c.in-Ok.ensures.ok.0 c.in-Ok.ensures.ok.1 h.1 c.in-Err-compile.ensures.err)
    c.costly.ensures
