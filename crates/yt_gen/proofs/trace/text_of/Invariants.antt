use Rattle.std.proofs.Common.{◌≡◌, take}
use Rattle.std.specs.List.{flat_map}
use Rattle.std.specs.String.{string_bytes}
use Rattle.yt_gen.specs.TraceText.{line_of}
use Rattle.yt_gen.proofs.trace.text_of.Given as goal

abbrev pub invariant-loop-message : goal.invariant-loop-message
invariant-loop-message l = string_bytes l.text ≡ flat_map line_of (take l.message-index l.messages)
