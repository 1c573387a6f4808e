-- What is due to a run, stopped or not, by what the texts of the graph and of the trace give.
use Rattle.std.proofs.Common.{◌≡◌, ℕ, ◌<◌, List, refl, sym, subst}
use Rattle.std.specs.Prelude.{IfOk, Result, Ok, Err, codes}
use Rattle.yt_admit.specs.Causes.{IsRated, IsRefusalText, misnamed, costly, misrated, rated, refusal_verdict}
use Rattle.yt_admit.specs.Trees.{not_lexed, not_spelled, calls_operator, tree}
use Rattle.yt_admit.proofs.Lemmas.{accepted_fits, graph_fits, graph_refused, graph_unfit}
use Rattle.yt_answer.specs.declared.answer.Answer.{Answer}
use Rattle.yt_answer.specs.declared.verdict.Verdict.{Verdict}
use Rattle.yt_answer.specs.declared.verdict.Verdict.TheVariants.{Done, Trace}
use Rattle.yt_answer.specs.Due.{IsDue}
use Rattle.yt_bound.specs.Bounds.{job_bound}
use Rattle.yt_fits.specs.declared.unfit.Unfit.{Unfit}
use Rattle.yt_fits.specs.Unfits.{IsReason}
use Rattle.yt_fitting.specs.Loads.{IsLoadText, IsUnfitText, LoadCause, fits, load_verdict, unfit, unfit_verdict}
use Rattle.yt_graph.specs.AstPicture.{ItemTree}
use Rattle.yt_graph.specs.Labels.{labels_of}
use Rattle.yt_graph.specs.Picture.{GraphTree, graph_tree}
use Rattle.yt_rates.specs.Acceptance.{Parts, IsAccepted}
use Rattle.yt_rates.specs.Tables.{tasks_of}
use Rattle.yt_runner.specs.Limits.{most_jobs_and_lines}
use Rattle.yt_trace.specs.declared.message.Message.{Message}
use Rattle.yt_trace.specs.declared.read.TraceFault.{TraceFault}
use Rattle.yt_trace.specs.declared.read.TraceFault.TheVariants.{Memory}
use Rattle.yt_trace.specs.TraceText.{IsFaultOf, trace_of}
use Rattle.yt_cmd_run.specs.declared.reading.Reading.{Reading}
use Rattle.yt_cmd_run.specs.declared.reading.Reading.TheVariants.{Run, Refused}
use Rattle.yt_cmd_run.specs.Causes.{IsToldText, IsTracedText, RunCause, TraceCause, at_fault, legal, run_verdict, too_long, trace_verdict}
use Rattle.yt_cmd_run.specs.Inside.Readings.{IsReadingOf, IsTracedReading}
use Rattle.yt_cmd_run.specs.Lines.{IsTraceLine, jobs_line}

-- what is due to texts of which nothing is run is due, whatever is told of messages that are run
pub told_refused : (Of : GraphTree → List Message → List ℕ → Type 0) (graph trace : List ℕ) (v : Verdict) (told : List ℕ) →
    IsDue (run_verdict {graph = graph} {trace = trace}) (IsToldText (λ g messages line. ⊥)) v told → IsDue (run_verdict {graph = graph} {trace = trace}) (IsToldText Of) v told
told_refused Of graph trace v told due = by due.cause due.verdict due.told
  where
    by : (cause : RunCause graph trace) → v ≡ run_verdict cause → IsToldText (λ g messages line. ⊥) cause told → IsDue (run_verdict {graph = graph} {trace = trace}) (IsToldText Of) v told
    by (not_lexed front fault is) e line = record { cause = not_lexed front fault is; verdict = e; told = line }
    by (not_spelled tokens place lexed is) e line = record { cause = not_spelled tokens place lexed is; verdict = e; told = line }
    by (calls_operator items is call) e line = record { cause = calls_operator items is call; verdict = e; told = line }
    by (tree items is no_call (misnamed fault at)) e line = record { cause = tree items is no_call (misnamed fault at); verdict = e; told = line }
    by (tree items is no_call (costly graph fault at)) e line = record { cause = tree items is no_call (costly graph fault at); verdict = e; told = line }
    by (tree items is no_call (misrated graph fault at)) e line = record { cause = tree items is no_call (misrated graph fault at); verdict = e; told = line }
    by (tree items is no_call (rated g at (unfit why reason))) e line = record { cause = tree items is no_call (rated g at (unfit why reason)); verdict = e; told = line }
    by (tree items is no_call (rated g at (fits narrow room (at_fault fault of real)))) e line =
        record { cause = tree items is no_call (rated g at (fits narrow room (at_fault fault of real))); verdict = e; told = line }
    by (tree items is no_call (rated g at (fits narrow room (too_long messages said more)))) e line =
        record { cause = tree items is no_call (rated g at (fits narrow room (too_long messages said more))); verdict = e; told = line }
    by (tree items is no_call (rated g at (fits narrow room (legal messages said few)))) e line = absurd line

-- a graph's text is refused
pub text_refused : (graph trace : List ℕ) (answer : Answer) → IsDue (refusal_verdict {text = graph}) (IsRefusalText {text = graph}) answer.verdict answer.text → IsReadingOf graph trace (Refused answer)
text_refused graph trace answer due =
    graph_refused graph {Asked = λ items g. LoadCause (tasks_of g) (TraceCause g trace)} (λ items g why. load_verdict (λ how. trace_verdict how) why)
    (λ items g why told. IsLoadText (codes "graph") (labels_of g) (λ how line. IsTracedText (λ messages line. ⊥) how line) why told) answer.verdict answer.text due

-- its tasks don't fit
pub text_unfit : {E : Type 0} (graph trace : List ℕ) (items : List ItemTree) (g : GraphTree) (why : Unfit) (r : Result Answer E) → IsRated graph items g → IsReason (tasks_of g) why →
    IfOk r (λ a. a.verdict ≡ unfit_verdict why) → IfOk r (λ a. IsUnfitText (codes "graph") (labels_of g) (tasks_of g) why a.text) → IfOk r (λ a. IsReadingOf graph trace (Refused a))
text_unfit graph trace items g why r is reason verdict told =
    graph_unfit {text = graph} {Asked = λ items g. TraceCause g trace} (λ items g how. trace_verdict how) (λ items g how line. IsTracedText (λ messages line. ⊥) how line) items g why r is reason verdict told

-- it stands for an accepted graph: the trace decides
pub text_accepted : {E : Type 0} (graph trace : List ℕ) (items : List ItemTree) (parts : Parts) (r : Result Reading E) → IsRated graph items (graph_tree parts.graph) → IsAccepted parts →
    IfOk r (λ reading. IsTracedReading parts trace reading) → IfOk r (λ reading. IsReadingOf graph trace reading)
text_accepted graph trace items parts (Err e) is accepted read = tt
text_accepted graph trace items parts (Ok (Run given messages)) is accepted read =
    let same = read.0 in
    subst (λ (p : Parts). IsReadingOf graph trace (Run p messages)) (sym same) ((items, is), accepted, read.1)
text_accepted graph trace items parts (Ok (Refused a)) is accepted due =
    let room = accepted_fits parts accepted in
    graph_fits {text = graph} {Asked = λ items g. TraceCause g trace} (λ items g how. trace_verdict how) (λ items g how line. IsTracedText (λ messages line. ⊥) how line) items (graph_tree parts.graph)
    a.verdict a.text is room.0 room.1 due

-- what is due to messages that are run
pub told_due : {E : Type 0} (Of : GraphTree → List Message → List ℕ → Type 0) (graph trace : List ℕ) (parts : Parts) (messages : List Message) (r : Result Answer E) → IsReadingOf graph trace (Run parts messages) →
    IfOk r (λ a. a.verdict ≡ Done) → IfOk r (λ a. Of (graph_tree parts.graph) messages a.text) → IfOk r (λ a. IsDue (run_verdict {graph = graph} {trace = trace}) (IsToldText Of) a.verdict a.text)
told_due Of graph trace parts messages (Err e) read done told = tt
told_due Of graph trace parts messages (Ok a) read done told =
    let g = graph_tree parts.graph in
    let room = accepted_fits parts read.1 in
    graph_fits {text = graph} {Asked = λ items g. TraceCause g trace} (λ items g how. trace_verdict how) (λ items g how line. IsTracedText (Of g) how line) read.0.0 g a.verdict a.text read.0.1 room.0 room.1
    (record { cause = legal messages read.2.said read.2.few; verdict = done; told = told })

-- the text of a trace has a line at fault
pub trace_at_fault : (parts : Parts) (trace : List ℕ) (fault : TraceFault) (line : List ℕ) → IsFaultOf (graph_tree parts.graph) trace fault → IsTraceLine line fault →
    IsTracedReading parts trace (Refused (record { verdict = Trace; text = line }))
trace_at_fault parts trace fault line is printed = record { cause = at_fault fault is (not_memory fault line printed); verdict = refl; told = printed }
  where
    not_memory : (fault : TraceFault) (line : List ℕ) → IsTraceLine line fault → fault ≡ Memory → ⊥
    not_memory fault line printed e = subst (IsTraceLine line) e printed

-- it says too much
pub trace_too_long : (parts : Parts) (trace : List ℕ) (messages : List Message) (line : List ℕ) → trace_of (graph_tree parts.graph) trace ≡ Ok messages → most_jobs_and_lines < job_bound (graph_tree parts.graph) messages →
    line ≡ jobs_line (job_bound (graph_tree parts.graph) messages) → IsTracedReading parts trace (Refused (record { verdict = Trace; text = line }))
trace_too_long parts trace messages line said more printed = record { cause = too_long messages said more; verdict = refl; told = printed }
