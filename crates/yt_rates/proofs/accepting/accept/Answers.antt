use Rattle.yt_graph.specs.Picture.{graph_tree}
use Rattle.yt_cost.proofs.Lemmas.{limits_kept}
use Rattle.yt_rates.proofs.accepting.accept.Goals as goal

pub new-requires-clause-costs : goal.new-requires-clause-costs
new-requires-clause-costs c = limits_kept (graph_tree c.args.graph) c.args.codes c.requires.codes c.len.ensures.limits
