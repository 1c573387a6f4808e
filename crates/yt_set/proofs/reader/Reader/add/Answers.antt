use Rattle.std.proofs.Common.{◌≡◌, ℕ, [], ◌∷◌, ◌++◌, false, cond, length, ◌<◌, sym, subst, ap, ◌∙◌}
use Rattle.yt_set.specs.declared.task.Task.{Task}
use Rattle.yt_set.specs.NamedTasks.{NamedTasks, IsNamed}
use Rattle.yt_set.specs.Inside.Reading.{with_new}
use Rattle.yt_table.specs.Tables.{is_among}
use Rattle.yt_set.proofs.NamedLemmas.{same_named, named_more}
use Rattle.yt_set.proofs.reader.Reader.add.Goals as goal

-- the parts that are there now are those of the set with the task
abbrev Added : goal.In_ok-push → Type 0
Added c =
    let old : NamedTasks = record { tasks = c.self.inside.tasks.items; labels = c.self.inside.labels; groups = c.self.inside.groups } in
    let new : NamedTasks = record { tasks = c.push.new.self.items; labels = c.insert.new.self; groups = c.number_of.new.groups } in
    new ≡ with_new old c.args.task

added : (c : goal.In_ok-push) → Added c
added c =
    let labels = c.self.inside.labels in
    let name = c.args.task.name.now in
    let other : is_among name labels ≡ false = subst (λ r. is_among name r.labels ≡ false) (sym c.self.view_is) c.requires.other in
    same_named
    (c.in_ok-push.ensures.items ∙ ap (λ (n : ℕ). c.self.inside.tasks.items ++ (let t : Task = record { cost = c.args.task.cost; period = c.args.task.period; resource = n } in t) ∷ []) c.in_ok-resource.ensures.number)
    (c.in_ok-insert.ensures.names ∙ ap (λ b. cond b labels (labels ++ name ∷ [])) other)
    c.in_ok-resource.ensures.groups

pub invariant_of-result : goal.invariant_of-result
invariant_of-result c =
    let old : NamedTasks = record { tasks = c.self.inside.tasks.items; labels = c.self.inside.labels; groups = c.self.inside.groups } in
    let room : length old.tasks < 64 = subst (λ r. length r.tasks < 64) (sym c.self.view_is) c.requires.room in
    subst IsNamed (sym (added c)) (named_more old c.args.task.name.now c.args.task.cost c.args.task.period c.args.task.group.now c.self.invariant c.requires.cost c.requires.period c.requires.name c.requires.group room)

pub returns : goal.returns
returns c = added c ∙ ap (λ r. with_new r c.args.task) c.self.view_is
