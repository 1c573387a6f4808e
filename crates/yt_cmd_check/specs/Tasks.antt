-- What is due where the tasks of a graph are asked for.
use Rattle.std.specs.Prelude.{◌≡◌, ℕ, List}
use Rattle.yt_answer.specs.declared.verdict.Verdict.{Verdict}
use Rattle.yt_answer.specs.declared.verdict.Verdict.TheVariants.{Done}
use Rattle.yt_admit.specs.Causes.{GraphCause, graph_verdict, IsGraphText}
use Rattle.yt_cmd_check.specs.TaskLines.{named_tasks, tasks_text}

-- why: the graph's text is refused, or it isn't
abbrev pub TasksCause : List ℕ → Type 0
TasksCause graph = GraphCause graph (λ items g. Unit {0})

-- the verdict
abbrev pub tasks_verdict : {graph : List ℕ} → TasksCause graph → Verdict
tasks_verdict cause = graph_verdict (λ items g why. Done) cause

-- its text
abbrev pub IsTasksText : {graph : List ℕ} → TasksCause graph → List ℕ → Type 0
IsTasksText cause told = IsGraphText (λ items g why text. text ≡ tasks_text (named_tasks g)) cause told
