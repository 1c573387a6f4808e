use Rattle.std.proofs.Common.{rules}
use Rattle.yt_gen.proofs.GraphLines.{ends_pieces}
use Rattle.yt_gen.proofs.graph.put_ends.Goals as goal

pub returns : goal.returns
returns c = rw (ends_pieces c.args.i) (search rules)
