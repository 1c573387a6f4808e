-- Why a verdict on a run comes, by the texts of the graph and of the trace, and its text.
use Rattle.std.specs.Prelude.{◌≡◌, ℕ, ◌<◌, ◌≤◌, List, Ok, codes}
use Rattle.yt_admit.specs.Causes.{GraphCause, IsGraphText, graph_verdict}
use Rattle.yt_answer.specs.declared.verdict.Verdict.{Verdict}
use Rattle.yt_answer.specs.declared.verdict.Verdict.TheVariants.{Done, Trace}
use Rattle.yt_bound.specs.Bounds.{job_bound}
use Rattle.yt_fitting.specs.Loads.{IsLoadText, LoadCause, load_verdict}
use Rattle.yt_graph.specs.Labels.{labels_of}
use Rattle.yt_graph.specs.Picture.{GraphTree}
use Rattle.yt_rates.specs.Tables.{tasks_of}
use Rattle.yt_runner.specs.Limits.{most_jobs_and_lines}
use Rattle.yt_trace.specs.declared.message.Message.{Message}
use Rattle.yt_trace.specs.declared.read.TraceFault.{TraceFault}
use Rattle.yt_trace.specs.declared.read.TraceFault.TheVariants.{Memory}
use Rattle.yt_trace.specs.TraceText.{IsFaultOf, trace_of}
use Rattle.yt_cmd_run.specs.Lines.{IsTraceLine, jobs_line}
use Rattle.yt_cmd_run.specs.Runs.{IsRun, IsStop}

-- why a verdict on the text of a trace comes, for a graph that fits: it has this first line at fault; or it says these messages, of which
-- a run may come to too many jobs and lines, or to few enough
pub data TraceCause (graph : GraphTree) (trace : List ℕ) : Type 0 where
  at_fault : (fault : TraceFault) → IsFaultOf graph trace fault → (fault ≡ Memory → ⊥) → TraceCause graph trace
  too_long : (messages : List Message) → trace_of graph trace ≡ Ok messages → most_jobs_and_lines < job_bound graph messages → TraceCause graph trace
  legal : (messages : List Message) → trace_of graph trace ≡ Ok messages → job_bound graph messages ≤ most_jobs_and_lines → TraceCause graph trace

-- the verdict
abbrev pub trace_verdict : {graph : GraphTree} {trace : List ℕ} → TraceCause graph trace → Verdict
trace_verdict (at_fault fault is not_memory) = Trace
trace_verdict (too_long messages is more) = Trace
trace_verdict (legal messages is few) = Done

-- its text, where `Of` is what is told of messages that are run
abbrev pub IsTracedText : (List Message → List ℕ → Type 0) → {graph : GraphTree} {trace : List ℕ} → TraceCause graph trace → List ℕ → Type 0
IsTracedText Of (at_fault fault is not_memory) text = IsTraceLine text fault
IsTracedText Of {graph} (too_long messages is more) text = text ≡ jobs_line (job_bound graph messages)
IsTracedText Of (legal messages is few) text = Of messages text

-- why a verdict on a run comes, stopped or not: the graph's text is refused, or its tasks don't fit, or the trace is judged
abbrev pub RunCause : List ℕ → List ℕ → Type 0
RunCause graph trace = GraphCause graph (λ items g. LoadCause (tasks_of g) (TraceCause g trace))

-- the verdict
abbrev pub run_verdict : {graph trace : List ℕ} → RunCause graph trace → Verdict
run_verdict cause = graph_verdict (λ items g why. load_verdict (λ how. trace_verdict how) why) cause

-- its text, where `Of` is what is told of a graph and of messages that are run
abbrev pub IsToldText : (GraphTree → List Message → List ℕ → Type 0) → {graph trace : List ℕ} → RunCause graph trace → List ℕ → Type 0
IsToldText Of cause text = IsGraphText (λ items g why told. IsLoadText (codes "graph") (labels_of g) (λ how line. IsTracedText (Of g) how line) why told) cause text

-- of a run it is the run's text
abbrev pub IsRunText : {graph trace : List ℕ} → RunCause graph trace → List ℕ → Type 0
IsRunText cause text = IsToldText IsRun cause text

-- of a run that is stopped at a tick it is that of the variables there
abbrev pub IsStopText : ℕ → {graph trace : List ℕ} → RunCause graph trace → List ℕ → Type 0
IsStopText tick cause text = IsToldText (λ g messages line. IsStop g messages tick line) cause text
