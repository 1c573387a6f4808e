use Rattle.std.proofs.Common.{◌≡◌, arith}
use Rattle.std.proofs.lemmas.Grind.{common_steps}
use Rattle.yt_gen.specs.GraphText.{graph_text}
use Rattle.yt_gen.proofs.Lengths.{graph_short}
use Rattle.yt_gen.proofs.graph.make_graph.Goals as goal

pub returns-clause-short : goal.returns-clause-short
returns-clause-short c =
    let text : c.into_bytes.result.items ≡ graph_text c.args.count = grind (arith, common_steps) in
    rw text (graph_short c.args.count c.requires)
