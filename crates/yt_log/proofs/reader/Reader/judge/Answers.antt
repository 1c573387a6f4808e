use Rattle.std.proofs.Common.{◌≡◌, ◌≤◌, ◌∷◌, [], ◌++◌, List, Some, Ok, Err, Result, MatchResult, length, ap, sym, subst}
use Rattle.yt_base.specs.Lines.{fields_of}
use Rattle.yt_set.specs.NamedTasks.{NamedTasks}
use Rattle.yt_set.specs.Tasks.{IsTaskSet}
use Rattle.yt_log.specs.declared.plan.PlanItem.{PlanItem}
use Rattle.yt_log.specs.declared.item_fault.ItemFault.{ItemFault}
use Rattle.yt_table.specs.Tables.{first_of}
use Rattle.yt_log.specs.Inside.PlanReading.{PlanSoFar, texts_of}
use Rattle.yt_log.proofs.PlanReads.{judged_as}
use Rattle.yt_log.proofs.reader.Reader.judge.Goals as goal

pub returns-in-Some-find-clause-answer : goal.returns-in-Some-find-clause-answer
returns-in-Some-find-clause-answer c =
    let set = c.args.self.now.set in
    let plan = c.args.self.now.plan in
    let task = c.in-Some-find.task in
    let same : c.self.inside.names ≡ set = ap (λ (r : PlanSoFar). r.set) c.self.view_is in
    let range = subst (λ (s : NamedTasks). IsTaskSet s.tasks) same c.in-Some-find.ensures.in_range in
    let high = subst (λ (s : NamedTasks). task ≤ length s.tasks) same c.in-Some-find.ensures.in_set.1 in
    let named = subst (λ (s : NamedTasks). Some task ≡ first_of c.in-Some.texts.task.now 1 s.labels) same c.in-Some-find.ensures.number in
    let same_answer =
    judged_as set plan (fields_of c.args.line.now) (texts_of c.in-Some.texts) task c.in_ok-arrival.arrival c.in_ok-cost.cost range c.in-Some-find.ensures.in_set.0 high
    c.in-Some.ensures c.in_ok-arrival.ensures.0 c.in_ok-cost.ensures.0 named c.in_ok-arrival.ensures.1 c.in_ok-cost.ensures.1 in
    let P : Result (List PlanItem) ItemFault → Type 0 = λ r. MatchResult c.judge_item.result (λ item. r ≡ Ok (plan ++ item ∷ [])) (λ fault. r ≡ Err fault) in
    subst P (sym same_answer) c.judge_item.ensures.answer
