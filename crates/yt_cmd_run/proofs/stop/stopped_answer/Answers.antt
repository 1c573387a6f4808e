use Rattle.std.proofs.Common.{ℕ, ℤ, List, ap, subst, ◌∙◌}
use Rattle.yt_answer.specs.declared.answer.Answer.{Answer}
use Rattle.yt_graph.specs.declared.graph.Graph.{Graph}
use Rattle.yt_graph.specs.Picture.{graph_tree}
use Rattle.yt_runner.specs.Variables.{AreVariablesAt}
use Rattle.yt_cmd_run.specs.Runs.{stop_text}
use Rattle.yt_cmd_run.proofs.stop.stopped_answer.Goals as goal

pub returns-clause-stop : goal.returns-clause-stop
returns-clause-stop c =
    let g = graph_tree c.args.accepted.now.graph in
    let values = c.in_ok-values.values in
    record {
      values = values;
      are = subst (λ (n : ℕ). AreVariablesAt g c.args.trace.now n values) c.from.ensures c.in_ok-values.ensures;
      printed = ap (λ (a : Answer). a.text) c.done.ensures ∙ c.in_ok-text.ensures ∙ ap (λ (h : Graph). stop_text (graph_tree h) c.args.tick c.as_slice.result.now) c.graph.ensures.graph
          ∙ ap (λ (vs : List ℤ). stop_text g c.args.tick vs) c.as_slice.ensures;
    }
