use Rattle.std.proofs.Common.{◌≡◌, length}
use Rattle.yt_trace.specs.TraceText.{values_of}
use Rattle.yt_trace.specs.Inside.Lines.{values_after}
use Rattle.yt_trace.proofs.message_line.values_of.Given as goal

abbrev pub invariant-loop-field : goal.invariant-loop-field
invariant-loop-field l = values_after l.values (values_of l.fields) ≡ values_of l.fn.fields

abbrev pub decreases-loop-field : goal.decreases-loop-field
decreases-loop-field l = length l.fields
