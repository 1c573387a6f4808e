use Rattle.std.proofs.Common.{ℕ, List, length, ap, sym, subst, ◌∙◌}
use Rattle.std.specs.Prelude.{codes}
use Rattle.yt_graph.specs.Labels.{labels_of}
use Rattle.yt_graph.specs.Picture.{graph_tree}
use Rattle.yt_rates.specs.Tables.{tasks_of}
use Rattle.yt_set.specs.declared.task.Task.{Task}
use Rattle.yt_answer.specs.declared.answer.Answer.{Answer}
use Rattle.yt_fitting.specs.Loads.{IsUnfitText}
use Rattle.yt_admit.proofs.Lemmas.{if_ok_from, same_count}
use Rattle.yt_admit.proofs.unfit.unfit_graph_answer.Goals as goal

pub unfit_answer-requires-clause-labels : goal.unfit_answer-requires-clause-labels
unfit_answer-requires-clause-labels c =
    ap length (c.as_slice.ensures ∙ c.in_ok-labels.ensures) ∙ same_count (graph_tree c.args.graph.now) ∙ sym (ap length c.requires.tasks)

pub returns-clause-text : goal.returns-clause-text
returns-clause-text c =
    let graph = graph_tree c.args.graph.now in
    if_ok_from (λ (a : Answer). IsUnfitText (codes "graph") c.as_slice.result.now c.args.set.now c.args.why.now a.text) (λ (a : Answer). IsUnfitText (codes "graph") (labels_of graph) (tasks_of graph) c.args.why.now a.text) c.unfit_answer.result
    (λ a h. subst (λ (ls : List (List ℕ)). IsUnfitText (codes "graph") ls (tasks_of graph) c.args.why.now a.text) (c.as_slice.ensures ∙ c.in_ok-labels.ensures)
    (subst (λ (ts : List Task). IsUnfitText (codes "graph") c.as_slice.result.now ts c.args.why.now a.text) c.requires.tasks h))
    c.unfit_answer.ensures.text
