use Rattle.std.proofs.Common.{◌+◌, List, ◌++◌, ℕ, ap, ◌∙◌, append_assoc}
use Rattle.yt_gen.specs.GraphText.{process_text}
use Rattle.yt_gen.proofs.Ranges.{pipelines_more}
use Rattle.yt_gen.proofs.graph.put_processes.Goals as goal

pub loop-n-preserved : goal.loop-n-preserved
loop-n-preserved c =
    rw (pipelines_more process_text c.loop-n.n, ← append_assoc)
    (c.in_ok-put_process.ensures ∙ ap (λ (text : List ℕ). text ++ process_text (c.loop-n.n + 1)) c.loop-n.invariant)
