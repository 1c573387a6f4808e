use Rattle.std.proofs.Common.{ℕ, below_more, sym, ◌∙◌}
use Rattle.yt_log.specs.Inside.Counts.{IsNoLater, segment_at}
use Rattle.yt_log.proofs.Counting.{no_later_from}
use Rattle.yt_log.proofs.judge.counts.passed.Goals as goal

pub loop-n-preserved : goal.loop-n-preserved
unfolding segment_at
loop-n-preserved c =
    below_more (λ (k : ℕ). IsNoLater c.args.job (segment_at c.args.segments.now k)) _ c.loop-n.invariant
    (no_later_from c.args.segments.now c.loop-n.n c.args.job (sym c.is_later.ensures ∙ c.if-is_later.false))
