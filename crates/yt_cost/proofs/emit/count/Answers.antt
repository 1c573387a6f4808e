use Rattle.std.proofs.Common.{sym, arith}
use Rattle.yt_graph.specs.Picture.{exprs_tree}
use Rattle.yt_cost.proofs.CodeShort.{exprs_count_is, exprs_count_le_size}
use Rattle.yt_cost.proofs.emit.count.Goals as goal

pub overflow_cast-result : goal.overflow_cast-result
overflow_cast-result c =
    omega (arith, exprs_count_is c.args.es.now, exprs_count_le_size (exprs_tree c.args.es.now), c.requires)

pub returns : goal.returns
returns c = sym (exprs_count_is c.args.es.now)
