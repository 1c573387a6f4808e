-- What is printed of the tasks of a graph.
use Rattle.std.specs.Prelude.{ℕ, ◌+◌, List, [], ◌∷◌, ◌++◌}
use Rattle.yt_list.specs.Numbered.{numbered_or}
use Rattle.yt_graph.specs.Labels.{labels_of}
use Rattle.yt_graph.specs.Picture.{GraphTree}
use Rattle.yt_rates.specs.Tables.{tasks_of}
use Rattle.yt_set.specs.declared.task.Task.{Task}
use Rattle.yt_set.specs.NamedTasks.{NamedTasks}
use Rattle.yt_set.specs.Printed.{task_line}

-- the tasks of a graph's ports, under the ports' names, with the names of the resources
abbrev pub named_tasks : GraphTree → NamedTasks
named_tasks graph = record { tasks = tasks_of graph; labels = labels_of graph; groups = graph.groups }

-- a line for each of these tasks of a set, which are numbered from this number on
abbrev pub task_lines : NamedTasks → ℕ → List Task → List ℕ
task_lines set number [] = []
task_lines set number (t ∷ tasks) =
    task_line (numbered_or set.labels number []) t (numbered_or set.groups t.resource []) ++ (10 ∷ task_lines set (number + 1) tasks)

-- a line for each task of a set
abbrev pub tasks_text : NamedTasks → List ℕ
tasks_text set = task_lines set 1 set.tasks
