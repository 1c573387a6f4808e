use Rattle.std.proofs.Common.{arith}
use Rattle.yt_graph.specs.Picture.{block_tree}
use Rattle.yt_graph.specs.Meaning.{start}
use Rattle.yt_graph.proofs.Lemmas.{block_ticks}
use Rattle.yt_mean.proofs.handled.run.Goals as goal

pub spend-requires : goal.spend-requires
spend-requires c =
    rw (c.in_ok-block.ensures, c.in_ok-walk.ensures, c.deref.ensures.value) (omega (arith, block_ticks (block_tree c.args.port.now.body.items) (start c.args.port.now.locals c.args.msg.now c.args.vars.now)))
