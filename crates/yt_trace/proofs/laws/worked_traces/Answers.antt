use Rattle.std.proofs.Common.{refl}
use Rattle.yt_trace.proofs.laws.worked_traces.Goals as goal

pub returns : goal.returns
returns c = record { none = refl; one = refl; apart = refl; both = refl; skipped = refl }
