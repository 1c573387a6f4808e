-- What is due to a graph's text, by what it is admitted as.
use Rattle.std.proofs.Common.{◌≡◌, ℕ, List, refl, ap, ◌∙◌}
use Rattle.std.specs.Prelude.{IfOk, Result, Ok, Err, codes}
use Rattle.yt_graph.specs.AstPicture.{ItemTree}
use Rattle.yt_graph.specs.Labels.{labels_of}
use Rattle.yt_graph.specs.Picture.{GraphTree, graph_tree}
use Rattle.yt_set.specs.declared.task.Task.{Task}
use Rattle.yt_fits.specs.declared.unfit.Unfit.{Unfit}
use Rattle.yt_fits.specs.Unfits.{IsReason}
use Rattle.yt_rates.specs.Acceptance.{Parts, IsAccepted}
use Rattle.yt_rates.specs.Tables.{tasks_of}
use Rattle.yt_answer.specs.declared.answer.Answer.{Answer}
use Rattle.yt_answer.specs.declared.verdict.Verdict.TheVariants.{Done}
use Rattle.yt_answer.specs.Due.{IsDue}
use Rattle.yt_answer.proofs.Lemmas.{due_answer}
use Rattle.yt_fitting.specs.Loads.{IsLoadText, IsUnfitText, LoadCause, load_verdict, unfit_verdict}
use Rattle.yt_fitting.specs.TaskText.{accepted_text}
use Rattle.yt_admit.specs.Causes.{IsRated, IsRefusalText, refusal_verdict}
use Rattle.yt_admit.proofs.Lemmas.{accepted_fits, graph_due, graph_fits, graph_refused, graph_unfit}
use Rattle.yt_cmd_check.specs.Check.{IsCheckText, check_verdict}
use Rattle.yt_cmd_check.specs.TaskLines.{named_tasks, tasks_text}
use Rattle.yt_cmd_check.specs.Tasks.{IsTasksText, tasks_verdict}

-- the tasks of a graph that is refused, and of one that isn't

pub tasks_refused : (text : List ℕ) (answer : Answer) → IsDue (refusal_verdict {text = text}) (IsRefusalText {text = text}) answer.verdict answer.text →
    IsDue (tasks_verdict {graph = text}) (IsTasksText {graph = text}) answer.verdict answer.text
tasks_refused text answer due =
    graph_refused text {Asked = λ items g. Unit {0}} (λ items g why. Done) (λ items g why line. line ≡ tasks_text (named_tasks g)) answer.verdict answer.text due

pub tasks_due : (text : List ℕ) (items : List ItemTree) (graph : GraphTree) (answer : Answer) (line : List ℕ) → IsRated text items graph → answer ≡ record { verdict = Done; text = line } → line ≡ tasks_text (named_tasks graph) →
    IsDue (tasks_verdict {graph = text}) (IsTasksText {graph = text}) answer.verdict answer.text
tasks_due text items graph answer line rated is told =
    graph_due {text = text} {Asked = λ items g. Unit {0}} (λ items g why. Done) (λ items g why line. line ≡ tasks_text (named_tasks g)) items graph answer.verdict answer.text rated
    (due_answer {C = Unit {0}} (λ why. Done) (λ why line. line ≡ tasks_text (named_tasks graph)) tt answer Done line is refl told)

-- whether the tasks fit of a graph that is refused, of one whose tasks don't, and of one that is accepted

pub check_refused : (text : List ℕ) (answer : Answer) → IsDue (refusal_verdict {text = text}) (IsRefusalText {text = text}) answer.verdict answer.text →
    IsDue (check_verdict {graph = text}) (IsCheckText {graph = text}) answer.verdict answer.text
check_refused text answer due =
    graph_refused text {Asked = λ items g. LoadCause (tasks_of g) (Unit {0})} (λ items g why. load_verdict (λ fit. Done) why)
    (λ items g why line. IsLoadText (codes "graph") (labels_of g) (λ fit told. told ≡ accepted_text (tasks_of g)) why line) answer.verdict answer.text due

pub check_unfit : {E : Type 0} (text : List ℕ) (items : List ItemTree) (graph : GraphTree) (why : Unfit) (r : Result Answer E) → IsRated text items graph → IsReason (tasks_of graph) why →
    IfOk r (λ a. a.verdict ≡ unfit_verdict why) → IfOk r (λ a. IsUnfitText (codes "graph") (labels_of graph) (tasks_of graph) why a.text) →
    IfOk r (λ a. IsDue (check_verdict {graph = text}) (IsCheckText {graph = text}) a.verdict a.text)
check_unfit text items graph why r rated reason verdict told =
    graph_unfit {text = text} {Asked = λ items g. Unit {0}} (λ items g fit. Done) (λ items g fit line. line ≡ accepted_text (tasks_of g)) items graph why r rated reason verdict told

pub check_accepted : {E : Type 0} (text : List ℕ) (items : List ItemTree) (parts : Parts) (set : List Task) (r : Result Answer E) → IsRated text items (graph_tree parts.graph) → IsAccepted parts → set ≡ parts.set →
    IfOk r (λ a. a ≡ record { verdict = Done; text = accepted_text set }) → IfOk r (λ a. IsDue (check_verdict {graph = text}) (IsCheckText {graph = text}) a.verdict a.text)
check_accepted text items parts set (Err e) rated accepted same told = tt
check_accepted text items parts set (Ok a) rated accepted same told =
    let graph = graph_tree parts.graph in
    let room = accepted_fits parts accepted in
    let tasks : set ≡ tasks_of graph = same ∙ accepted.fitting.set in
    graph_fits {text = text} {Asked = λ items g. Unit {0}} (λ items g fit. Done) (λ items g fit line. line ≡ accepted_text (tasks_of g)) items graph a.verdict a.text rated room.0 room.1
    (due_answer {C = Unit {0}} (λ fit. Done) (λ fit line. line ≡ accepted_text (tasks_of graph)) tt a Done (accepted_text set) told refl (ap accepted_text tasks))
