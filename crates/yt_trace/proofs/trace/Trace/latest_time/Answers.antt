use Rattle.std.proofs.Common.{ap, ◌∙◌}
use Rattle.yt_trace.specs.Traces.{latest_time}
use Rattle.yt_trace.proofs.Adding.{latest_last}
use Rattle.yt_trace.proofs.trace.Trace.latest_time.Goals as goal

pub returns-in-Some : goal.returns-in-Some
returns-in-Some c =
    latest_last 0 c.as_slice.result.now c.in-Some.message.now c.in-Some.ensures.item.3.0 c.in-Some.ensures.item.1 ∙ ap latest_time (c.as_slice.ensures ∙ c.self.view_is)
