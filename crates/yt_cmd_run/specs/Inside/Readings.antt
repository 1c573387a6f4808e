-- What the texts of a graph and of a trace give.
use Rattle.std.specs.Prelude.{◌≡◌, ℕ, ◌≤◌, List, Ok}
use Rattle.yt_admit.specs.Causes.{IsRated}
use Rattle.yt_answer.specs.Due.{IsDue}
use Rattle.yt_bound.specs.Bounds.{job_bound}
use Rattle.yt_graph.specs.AstPicture.{ItemTree}
use Rattle.yt_graph.specs.Picture.{graph_tree}
use Rattle.yt_rates.specs.Acceptance.{IsAccepted, Parts}
use Rattle.yt_runner.specs.Limits.{most_jobs_and_lines}
use Rattle.yt_trace.specs.declared.message.Message.{Message}
use Rattle.yt_trace.specs.Traces.{KeepsPeriods}
use Rattle.yt_trace.specs.TraceText.{trace_of}
use Rattle.yt_cmd_run.specs.declared.reading.Reading.{Reading}
use Rattle.yt_cmd_run.specs.declared.reading.Reading.TheVariants.{Run, Refused}
use Rattle.yt_cmd_run.specs.Causes.{IsToldText, IsTracedText, run_verdict, trace_verdict}

-- the text of a trace says these messages for an accepted graph, which can be run on them
pub record CanRunOn (parts : Parts) (trace : List ℕ) (messages : List Message) : Type 0 where
  pub said : trace_of (graph_tree parts.graph) trace ≡ Ok messages
  pub keeps : KeepsPeriods (graph_tree parts.graph) messages
  pub few : job_bound (graph_tree parts.graph) messages ≤ most_jobs_and_lines

-- the text of a trace gives messages for this graph; or this answer is due to it, whatever is told of messages that are run
abbrev pub IsTracedReading : Parts → List ℕ → Reading → Type 0
IsTracedReading parts trace (Run accepted messages) = (accepted ≡ parts) × CanRunOn parts trace messages
IsTracedReading parts trace (Refused answer) = IsDue (trace_verdict {graph = graph_tree parts.graph} {trace = trace}) (IsTracedText (λ messages line. ⊥)) answer.verdict answer.text

-- the texts give an accepted graph and messages for it; or this answer is due to them, whatever is told of messages that are run
abbrev pub IsReadingOf : List ℕ → List ℕ → Reading → Type 0
IsReadingOf graph trace (Run accepted messages) =
    ((items : List ItemTree) × IsRated graph items (graph_tree accepted.graph)) × IsAccepted accepted × CanRunOn accepted trace messages
IsReadingOf graph trace (Refused answer) = IsDue (run_verdict {graph = graph} {trace = trace}) (IsToldText (λ g messages line. ⊥)) answer.verdict answer.text
