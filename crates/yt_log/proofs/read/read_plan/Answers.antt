use Rattle.std.proofs.Common.{[], ap, ◌∙◌, sym, subst, Ok, List}
use Rattle.yt_set.specs.NamedTasks.{NamedTasks}
use Rattle.yt_log.specs.declared.plan.PlanItem.{PlanItem}
use Rattle.yt_log.specs.Plan.{IsLegalPlan}
use Rattle.yt_log.specs.PlanFaults.{IsFaultOf}
use Rattle.yt_log.specs.Inside.PlanReading.{PlanSoFar, fault_of}
use Rattle.yt_log.proofs.PlanLines.{plan_told, fault_told, if_err}
use Rattle.yt_log.proofs.read.read_plan.Goals as goal

pub returns-in_err-reader-clause-err : goal.returns-in_err-reader-clause-err
returns-in_err-reader-clause-err c =
    let start = c.new-2.ensures ∙ ap (λ (s : NamedTasks). let r : PlanSoFar = record { set = s; plan = [] } in r) c.in_ok-new.ensures in
    let told = fault_told c.args.set.now c.args.text.now c.new-2.result c.in_err-reader.field-0.0 start c.in_err-reader.ensures.err in
    if_err (IsFaultOf c.args.set.now c.args.text.now) (fault_of c.in_err-reader.field-0.0) c.from_residual-in_err-reader.result c.from_residual-in_err-reader.ensures.1 told

pub returns-clause-ok : goal.returns-clause-ok
returns-clause-ok c =
    let start = c.new-2.ensures ∙ ap (λ (s : NamedTasks). let r : PlanSoFar = record { set = s; plan = [] } in r) c.in_ok-new.ensures in
    let told = plan_told c.args.set.now c.args.text.now c.new-2.result c.in_ok-reader.reader start c.in_ok-reader.ensures.ok in
    told.0 ∙ ap (λ (plan : List PlanItem). Ok plan) (sym c.finish.ensures.plan)

pub returns-clause-legal : goal.returns-clause-legal
returns-clause-legal c =
    let start = c.new-2.ensures ∙ ap (λ (s : NamedTasks). let r : PlanSoFar = record { set = s; plan = [] } in r) c.in_ok-new.ensures in
    let told = plan_told c.args.set.now c.args.text.now c.new-2.result c.in_ok-reader.reader start c.in_ok-reader.ensures.ok in
    subst (λ (s : NamedTasks). IsLegalPlan s.tasks c.finish.result) told.1 c.finish.ensures.legal
