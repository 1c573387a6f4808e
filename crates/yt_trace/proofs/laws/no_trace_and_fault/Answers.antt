use Rattle.yt_trace.proofs.Reading.{no_trace_and_fault}
use Rattle.yt_trace.proofs.laws.no_trace_and_fault.Goals as goal

pub returns : goal.returns
returns c = no_trace_and_fault
