-- A run has one verdict, stopped or not, and it always has one.
use Rattle.std.proofs.Common.{◌≡◌, ℕ, List}
use Rattle.yt_admit.proofs.Lemmas.{one_graph, some_graph}
use Rattle.yt_fitting.proofs.Lemmas.{one_load, some_load}
use Rattle.yt_fitting.specs.Loads.{LoadCause, load_verdict}
use Rattle.yt_rates.specs.Tables.{tasks_of}
use Rattle.yt_cmd_run.specs.Causes.{RunCause, TraceCause, run_verdict, trace_verdict}
use Rattle.yt_cmd_run.proofs.Traces.{one_trace, some_trace}

-- two causes of the same texts have one verdict
pub one_run : (graph trace : List ℕ) (a b : RunCause graph trace) → run_verdict a ≡ run_verdict b
one_run graph trace a b =
    one_graph {text = graph} {Asked = λ items g. LoadCause (tasks_of g) (TraceCause g trace)} (λ items g why. load_verdict (λ how. trace_verdict how) why)
    (λ items g p q. one_load (tasks_of g) (TraceCause g trace) (λ how. trace_verdict how) (λ x y. one_trace g trace x y) p q) a b

-- and there always is one
pub some_run : (graph trace : List ℕ) → (RunCause graph trace → ⊥) → ⊥
some_run graph trace none =
    some_graph graph (λ items g. LoadCause (tasks_of g) (TraceCause g trace))
    (λ items g is not. some_load (tasks_of g) (TraceCause g trace) (λ no. some_trace g trace no) not) none
