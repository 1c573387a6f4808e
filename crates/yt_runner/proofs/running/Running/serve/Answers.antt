use Rattle.std.proofs.Common.{◌≡◌, ℕ, slice_get, Some, sym, ap, subst, ◌∙◌, add-one}
use Rattle.yt_graph.specs.declared.graph.Graph.{Graph}
use Rattle.yt_graph.specs.Picture.{graph_tree}
use Rattle.yt_body_laws.specs.Placing.{IsFedBy}
use Rattle.yt_runner.specs.Inside.Going.{IsServing}
use Rattle.yt_runner.specs.Inside.State.{RunnerState}
use Rattle.yt_runner.proofs.Feeding.{fed_at, unfed_at}
use Rattle.yt_runner.proofs.Taking.{passes_port}
use Rattle.yt_runner.proofs.running.Running.serve.Goals as goal

pub put-requires-clause-fed : goal.put-requires-clause-fed
put-requires-clause-fed c =
    let gr = c.args.self.now.parts.graph in
    let place = c.args.place in
    let input = c.args.message.now.input in
    let same : c.graph.result.now ≡ gr = c.graph.ensures.graph ∙ ap (λ (s : RunnerState). s.parts.graph) c.self.view_is in
    let there : slice_get gr.ports place ≡ Some c.at.result.now = sym (ap (λ (x : Graph). slice_get x.ports place) same) ∙ c.at.ensures.get in
    let fed = fed_at gr place c.at.result.now input there (c.is_fed.ensures.fed c.if-is_fed.true) in
    subst (λ (n : ℕ). IsFedBy (graph_tree gr) n input) (sym (add-one place)) fed

pub returns-else-is_fed-clause-serving : goal.returns-else-is_fed-clause-serving
returns-else-is_fed-clause-serving c =
    let gr = c.args.self.now.parts.graph in
    let place = c.args.place in
    let x = c.args.message.now in
    let same : c.graph.result.now ≡ gr = c.graph.ensures.graph ∙ ap (λ (s : RunnerState). s.parts.graph) c.self.view_is in
    let there : slice_get gr.ports place ≡ Some c.at.result.now = sym (ap (λ (x : Graph). slice_get x.ports place) same) ∙ c.at.ensures.get in
    let unfed = unfed_at gr place c.at.result.now x.input there (c.is_fed.ensures.unfed c.if-is_fed.false) in
    subst (λ (n : ℕ). IsServing c.args.self.now x n) (sym (add-one place)) (passes_port c.args.self.now x place c.requires.serving unfed)
