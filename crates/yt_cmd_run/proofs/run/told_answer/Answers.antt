use Rattle.std.proofs.Common.{◌≡◌, ap, ◌∙◌}
use Rattle.yt_answer.specs.declared.answer.Answer.{Answer}
use Rattle.yt_graph.specs.Picture.{GraphTree, graph_tree}
use Rattle.yt_run.specs.RunText.{read_back, run_text}
use Rattle.yt_serial.specs.Premises.{CanRun}
use Rattle.yt_cmd_run.proofs.run.told_answer.Goals as goal

pub returns-clause-run : goal.returns-clause-run
returns-clause-run c =
    let g = graph_tree c.args.accepted.now.graph in
    let told = c.in_ok-told.told in
    let graph : graph_tree c.graph-graph.result.now ≡ g = ap graph_tree c.graph-graph.ensures.graph in
    let printed : c.done.result.text ≡ run_text g told.log told.outs =
    ap (λ (a : Answer). a.text) c.done.ensures ∙ c.in_ok-run_text.ensures.text ∙ ap (λ (t : GraphTree). run_text t told.log told.outs) graph in
    let accepted = c.graph-graph.ensures.accepted in
    let can : CanRun g c.args.trace.now = record { well_formed = accepted.well_formed; rates = accepted.fitting.limits; keeps = c.requires.keeps } in
    record {
      log = told.log;
      lines = told.outs;
      told = ap (read_back g) printed ∙ c.runs_read_back.ensures.of_values g c.args.trace.now can told.log told.outs c.in_ok-told.ensures c.in_ok-run_text.ensures.values;
      printed = printed;
      promised = c.in_ok-told.ensures;
    }
