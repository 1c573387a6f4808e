use Rattle.std.proofs.Common.{◌≡◌, ◌++◌, map}
use Rattle.std.specs.List.{range_with_len}
use Rattle.yt_gen.specs.TraceText.{message_of}
use Rattle.yt_gen.proofs.trace.put_messages.Given as goal

abbrev pub invariant-loop-before : goal.invariant-loop-before
invariant-loop-before l = l.messages.items ≡ l.initial.messages.items ++ map (message_of l.input) (range_with_len 0 l.before)
