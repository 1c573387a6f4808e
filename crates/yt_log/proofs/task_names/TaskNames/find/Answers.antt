use Rattle.std.proofs.Common.{ap, ◌∙◌}
use Rattle.yt_set.specs.NamedTasks.{NamedTasks}
use Rattle.yt_table.specs.Tables.{first_of}
use Rattle.yt_log.proofs.NameTables.{none_found, number_found}
use Rattle.yt_log.proofs.task_names.TaskNames.find.Goals as goal

pub returns-in_err-index-clause-number : goal.returns-in_err-index-clause-number
returns-in_err-index-clause-number c =
    c.from_residual.ensures
    ∙ none_found c.self.inside.table c.self.inside.set.now.labels c.args.name.now c.self.invariant.named c.in_err-index.ensures.first
    ∙ ap (λ (s : NamedTasks). first_of c.args.name.now 1 s.labels) c.self.view_is

pub returns-clause-number : goal.returns-clause-number
returns-clause-number c =
    number_found c.self.inside.table c.self.inside.set.now.labels c.args.name.now c.in_ok-index.index c.self.invariant.named c.in_ok-index.ensures.first
    ∙ ap (λ (s : NamedTasks). first_of c.args.name.now 1 s.labels) c.self.view_is
