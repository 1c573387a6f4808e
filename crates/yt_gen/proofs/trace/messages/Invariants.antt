use Rattle.std.proofs.Common.{◌≡◌}
use Rattle.std.specs.List.{flat_map}
use Rattle.yt_gen.specs.TraceText.{messages_of}
use Rattle.yt_gen.specs.Pipelines.{pipelines}
use Rattle.yt_gen.proofs.trace.messages.Given as goal

abbrev pub invariant-loop-n : goal.invariant-loop-n
invariant-loop-n l = l.messages.items ≡ flat_map messages_of (pipelines l.n)
