-- What is due where it is asked whether the tasks of a graph fit.
use Rattle.std.specs.Prelude.{◌≡◌, ℕ, List, codes}
use Rattle.yt_graph.specs.Labels.{labels_of}
use Rattle.yt_rates.specs.Tables.{tasks_of}
use Rattle.yt_answer.specs.declared.verdict.Verdict.{Verdict}
use Rattle.yt_answer.specs.declared.verdict.Verdict.TheVariants.{Done}
use Rattle.yt_fitting.specs.Loads.{LoadCause, load_verdict, IsLoadText}
use Rattle.yt_fitting.specs.TaskText.{accepted_text}
use Rattle.yt_admit.specs.Causes.{GraphCause, graph_verdict, IsGraphText}

-- why: the graph's text is refused, or its tasks don't fit, or they do
abbrev pub CheckCause : List ℕ → Type 0
CheckCause graph = GraphCause graph (λ items g. LoadCause (tasks_of g) (Unit {0}))

-- the verdict
abbrev pub check_verdict : {graph : List ℕ} → CheckCause graph → Verdict
check_verdict cause = graph_verdict (λ items g why. load_verdict (λ fit. Done) why) cause

-- its text
abbrev pub IsCheckText : {graph : List ℕ} → CheckCause graph → List ℕ → Type 0
IsCheckText cause told = IsGraphText (λ items g why text. IsLoadText (codes "graph") (labels_of g) (λ fit line. line ≡ accepted_text (tasks_of g)) why text) cause told
