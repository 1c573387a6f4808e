use Rattle.std.proofs.Common.{rules}
use Rattle.yt_gen.proofs.GraphLines.{process_pieces}
use Rattle.yt_gen.proofs.graph.put_process.Goals as goal

pub returns : goal.returns
returns c = rw (process_pieces c.args.i) (search rules)
