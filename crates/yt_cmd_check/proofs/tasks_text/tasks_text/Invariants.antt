use Rattle.std.proofs.Common.{◌≡◌, ◌+◌, ◌++◌, drop}
use Rattle.yt_graph.specs.Picture.{graph_tree}
use Rattle.yt_cmd_check.specs.TaskLines.{named_tasks, task_lines, tasks_text}
use Rattle.yt_cmd_check.proofs.tasks_text.tasks_text.Given as goal

-- what was put so far, and then the tasks that are left, is all
abbrev pub invariant-loop-n : goal.invariant-loop-n
invariant-loop-n l = l.text ++ task_lines (named_tasks (graph_tree l.graph)) (l.n + 1) (drop l.n l.set) ≡ tasks_text (named_tasks (graph_tree l.graph))
