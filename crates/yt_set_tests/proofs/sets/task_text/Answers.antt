use Rattle.std.proofs.Common.{◌≤◌, List, length, ap, ◌∙◌, sym}
use Rattle.yt_list.specs.Numbered.{numbered}
use Rattle.yt_set.specs.declared.task.Task.{Task}
use Rattle.yt_set_tests.proofs.Numbered.{numbered_all}
use Rattle.yt_set_tests.proofs.sets.task_text.Goals as goal

pub group-requires-clause-within : goal.group-requires-clause-within
group-requires-clause-within c =
    numbered_all (λ (task : Task). task.resource ≤ length c.args.named.now.groups) c.args.named.now.tasks c.args.number c.task-task.result c.set.ensures.grouped (sym (ap (λ (tasks : List Task). numbered tasks c.args.number) c.set.ensures.set) ∙ c.task-task.ensures.value)
