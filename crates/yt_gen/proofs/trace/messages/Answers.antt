use Rattle.std.proofs.Common.{◌+◌, List, ◌++◌, ap, ◌∙◌}
use Rattle.yt_gen.specs.TraceText.{messages_of}
use Rattle.yt_gen.specs.declared.message.Message.{Message}
use Rattle.yt_gen.proofs.Ranges.{pipelines_more}
use Rattle.yt_gen.proofs.trace.messages.Goals as goal

pub loop-n-preserved : goal.loop-n-preserved
loop-n-preserved c =
    rw (pipelines_more messages_of c.loop-n.n)
    (c.in_ok-put_messages.ensures ∙ ap (λ (front : List Message). front ++ messages_of (c.loop-n.n + 1)) c.loop-n.invariant)
