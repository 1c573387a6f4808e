use Rattle.std.proofs.Common.{bytes_eq}
use Rattle.yt_ops.specs.Heads.{names_of}
use Rattle.yt_ops.proofs.Names.{found_is_there}
use Rattle.yt_ops.proofs.heads.Heads.has.Goals as goal

pub returns : goal.returns
returns c = let there = found_is_there (bytes_eq c.args.name.now) 0 (names_of c.args.self.now) in cc
