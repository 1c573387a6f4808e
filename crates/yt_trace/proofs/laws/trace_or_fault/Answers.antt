use Rattle.yt_trace.proofs.Reading.{trace_or_fault}
use Rattle.yt_trace.proofs.laws.trace_or_fault.Goals as goal

pub returns : goal.returns
returns c = trace_or_fault
