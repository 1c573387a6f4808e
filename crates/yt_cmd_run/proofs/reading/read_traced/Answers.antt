use Rattle.std.proofs.Common.{◌≡◌, ℕ, ◌<◌, sym, ap, subst, ◌∙◌}
use Rattle.std.specs.Prelude.{Ok}
use Rattle.yt_graph.specs.declared.graph.Graph.{Graph}
use Rattle.yt_graph.specs.Picture.{graph_tree}
use Rattle.yt_runner.specs.Limits.{most_jobs_and_lines}
use Rattle.yt_trace.specs.TraceText.{IsFaultOf, trace_of}
use Rattle.yt_cmd_run.specs.Inside.Readings.{IsTracedReading}
use Rattle.yt_cmd_run.specs.Lines.{jobs_line}
use Rattle.yt_cmd_run.proofs.Answered.{trace_at_fault, trace_too_long}
use Rattle.yt_cmd_run.proofs.reading.read_traced.Goals as goal

pub returns-in-Err : goal.returns-in-Err
returns-in-Err c =
    let text = c.args.text.now in
    let is = subst (λ (g : Graph). IsFaultOf (graph_tree g) text c.in-Err.fault) c.graph.ensures.graph c.in-Err.ensures.err in
    subst (IsTracedReading c.args.accepted text) (sym c.refused.ensures) (trace_at_fault c.args.accepted text c.in-Err.fault c.in_ok-trace_line-in-Err.field-0 is c.in_ok-trace_line-in-Err.ensures)

pub returns-then-bound-gt-MOST_JOBS_AND_LINES : goal.returns-then-bound-gt-MOST_JOBS_AND_LINES
returns-then-bound-gt-MOST_JOBS_AND_LINES c =
    let text = c.args.text.now in
    let said = subst (λ (g : Graph). trace_of (graph_tree g) text ≡ Ok c.in-Ok.trace) c.graph.ensures.graph c.in-Ok.ensures.ok in
    let more = subst (λ (n : ℕ). most_jobs_and_lines < n) c.job_bound-bound.ensures c.if-bound-gt-MOST_JOBS_AND_LINES.true in
    subst (IsTracedReading c.args.accepted text) (sym c.refused-then-bound-gt-MOST_JOBS_AND_LINES.ensures)
    (trace_too_long c.args.accepted text c.in-Ok.trace c.in_ok-jobs_line.field-0 said more (c.in_ok-jobs_line.ensures ∙ ap jobs_line c.job_bound-bound.ensures))
