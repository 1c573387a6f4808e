use Rattle.std.proofs.Common.{◌≡◌, drop}
use Rattle.yt_io.specs.MemSink.{kept_of}
use Rattle.yt_io.proofs.mem_sink.kept.Given as goal

-- what is left has the answer
abbrev pub invariant-loop-n : goal.invariant-loop-n
invariant-loop-n l = kept_of (drop l.n-index l.fails) l.write ≡ kept_of l.fails l.write
