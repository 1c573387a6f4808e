-- What is proved of the texts of traces.
use Rattle.std.specs.Prelude.{◌≡◌, ℕ, ◌⊎◌, List, Ok}
use Rattle.yt_graph.specs.Picture.{GraphTree}
use Rattle.yt_trace.specs.declared.message.Message.{Message}
use Rattle.yt_trace.specs.declared.read.TraceFault.{TraceFault}
use Rattle.yt_trace.specs.declared.read.TraceFault.TheVariants.{Memory}
use Rattle.yt_trace.specs.Traces.{KeepsPeriods}
use Rattle.yt_trace.specs.TraceText.{IsFaultOf, IsLegalTrace, trace_of}

-- each text says a trace of a graph, or it has a fault that isn't want of memory
abbrev pub TraceOrFault : Type 0
TraceOrFault = (g : GraphTree) (text : List ℕ) → IsLegalTrace g text ⊎ ((fault : TraceFault) × IsFaultOf g text fault × (fault ≡ Memory → ⊥))

-- never both: a text that says a trace has no fault but want of memory
abbrev pub NoTraceAndFault : Type 0
NoTraceAndFault = (g : GraphTree) (text : List ℕ) (fault : TraceFault) → IsLegalTrace g text → IsFaultOf g text fault → fault ≡ Memory

-- the trace that a text says of a graph keeps the graph's periods
abbrev pub TracesKeepPeriods : Type 0
TracesKeepPeriods = (g : GraphTree) (text : List ℕ) (trace : List Message) → trace_of g text ≡ Ok trace → KeepsPeriods g trace
