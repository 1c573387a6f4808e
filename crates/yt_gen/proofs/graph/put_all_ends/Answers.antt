use Rattle.std.proofs.Common.{◌+◌, List, ◌++◌, ℕ, ap, ◌∙◌, append_assoc}
use Rattle.yt_gen.specs.GraphText.{ends_text}
use Rattle.yt_gen.proofs.Ranges.{pipelines_more}
use Rattle.yt_gen.proofs.graph.put_all_ends.Goals as goal

pub loop-n-preserved : goal.loop-n-preserved
loop-n-preserved c =
    rw (pipelines_more ends_text c.loop-n.n, ← append_assoc)
    (c.in_ok-put_ends.ensures ∙ ap (λ (text : List ℕ). text ++ ends_text (c.loop-n.n + 1)) c.loop-n.invariant)
