use Rattle.std.proofs.Common.{◌≡◌, ℕ, ◌+◌, ◌≤◌, [], ◌∷◌, ◌++◌, List, length, slice_get, Some, sym, ap, subst, ◌∙◌}
use Rattle.std.specs.Prelude.{◌↔◌}
use Rattle.yt_graph.specs.Picture.{graph_tree}
use Rattle.yt_set.specs.declared.task.Task.{Task}
use Rattle.yt_set.specs.Printed.{task_line}
use Rattle.yt_list.specs.Numbered.{numbered_or}
use Rattle.yt_graph.specs.Labels.{labels_of}
use Rattle.yt_cmd_check.specs.TaskLines.{named_tasks}
use Rattle.yt_cmd_check.proofs.ShownTasks.{group_none, group_short, label_short, resource_there}
use Rattle.yt_cmd_check.proofs.LineLemmas.{placed, task_more}
use Rattle.yt_cmd_check.proofs.tasks_text.tasks_text.Goals as goal

pub put_task-requires-clause-label : goal.put_task-requires-clause-label
put_task-requires-clause-label c =
    let graph = graph_tree c.args.graph.now in
    let label = c.task_label.ensures ∙ ap (λ (ls : List (List ℕ)). numbered_or ls (c.loop-n.n + 1) []) (c.as_slice.ensures ∙ c.in_ok-labels.ensures) in
    subst (λ l. length l ≤ 65) (sym label) (label_short graph (c.loop-n.n + 1) c.requires.well_formed)

pub put_task-requires-clause-group : goal.put_task-requires-clause-group
put_task-requires-clause-group c =
    let at = placed c.args.set.now c.loop-n.n c.task-task.result c.task-task.ensures.value in
    let there = resource_there (graph_tree c.args.graph.now) c.loop-n.n c.task-task.result c.requires.well_formed
    (subst (λ (ts : List Task). slice_get ts c.loop-n.n ≡ Some c.task-task.result) c.requires.tasks at) in
    subst (λ l. length l ≤ 65) (sym c.group_name.ensures) (group_short (graph_tree c.args.graph.now) c.task-task.result.resource c.requires.well_formed there)

pub put_task-requires-clause-none : goal.put_task-requires-clause-none
put_task-requires-clause-none c =
    let at = placed c.args.set.now c.loop-n.n c.task-task.result c.task-task.ensures.value in
    let there = resource_there (graph_tree c.args.graph.now) c.loop-n.n c.task-task.result c.requires.well_formed
    (subst (λ (ts : List Task). slice_get ts c.loop-n.n ≡ Some c.task-task.result) c.requires.tasks at) in
    subst (λ (l : List ℕ). (l ≡ []) ↔ (c.task-task.result.resource ≡ 0)) (sym c.group_name.ensures) (group_none (graph_tree c.args.graph.now) c.task-task.result.resource c.requires.well_formed there)

pub loop-n-preserved : goal.loop-n-preserved
loop-n-preserved c =
    let graph = graph_tree c.args.graph.now in
    let at = placed c.args.set.now c.loop-n.n c.task-task.result c.task-task.ensures.value in
    let label : c.task_label.result.now ≡ numbered_or (labels_of graph) (c.loop-n.n + 1) [] =
    c.task_label.ensures ∙ ap (λ (ls : List (List ℕ)). numbered_or ls (c.loop-n.n + 1) []) (c.as_slice.ensures ∙ c.in_ok-labels.ensures) in
    let line : c.bytes.result.now ≡ task_line (numbered_or (labels_of graph) (c.loop-n.n + 1) []) c.task-task.result (numbered_or graph.groups c.task-task.result.resource []) =
    c.bytes.ensures.value ∙ c.put_task.ensures
    ∙ ap (λ l. task_line l c.task-task.result c.group_name.result.now) label
    ∙ ap (λ g. task_line (numbered_or (labels_of graph) (c.loop-n.n + 1) []) c.task-task.result g) c.group_name.ensures in
    task_more (named_tasks graph) c.loop-n.n c.args.set.now c.task-task.result c.bytes.result.now c.loop-n.text c.put-in-loop-n.new.self at line
    (c.in_ok-put-2.ensures ∙ ap (λ x. x ++ 10 ∷ []) c.in_ok-put.ensures)
    ∙ c.loop-n.invariant
