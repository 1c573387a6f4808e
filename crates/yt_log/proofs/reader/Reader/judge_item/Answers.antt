use Rattle.std.proofs.Common.{◌+◌, ◌∷◌, [], ◌++◌, List, Option, ap, ◌∙◌, sym, arith}
use Rattle.yt_list.specs.Numbered.{numbered}
use Rattle.yt_set.specs.declared.task.Task.{Task}
use Rattle.yt_log.specs.declared.item_fault.ItemFault.{ItemFault}
use Rattle.yt_log.specs.PlanText.{unless}
use Rattle.yt_log.specs.Inside.PlanReading.{PlanSoFar}
use Rattle.yt_log.proofs.PlanReads.{item_answer, item_may, last_bounds}
use Rattle.yt_log.proofs.reader.Reader.judge_item.Goals as goal

pub item_fault-requires-clause-last : goal.item_fault-requires-clause-last
item_fault-requires-clause-last c =
    let read : PlanSoFar = record { set = c.self.inside.names; plan = c.self.inside.plan } in
    (last_bounds read c.args.self.now c.self.inside.last.jobs c.of-last.result c.args.task c.self.view_is c.set.ensures.in_range c.self.invariant.legal c.requires.positive c.requires.within
    c.self.invariant.jobs c.of-last.ensures).0

pub overflow_add-result : goal.overflow_add-result
overflow_add-result c =
    let read : PlanSoFar = record { set = c.self.inside.names; plan = c.self.inside.plan } in
    let few =
    (last_bounds read c.args.self.now c.self.inside.last.jobs c.of-last.result c.args.task c.self.view_is c.set.ensures.in_range c.self.invariant.legal c.requires.positive c.requires.within
    c.self.invariant.jobs c.of-last.ensures).1 in
    omega (arith, few, c.len.ensures.len, c.in-None.ensures.fine.room)

pub returns-in-Some-clause-answer : goal.returns-in-Some-clause-answer
returns-in-Some-clause-answer c =
    let read : PlanSoFar = record { set = c.self.inside.names; plan = c.self.inside.plan } in
    let at = ap (λ (ts : List Task). numbered ts c.args.task) (sym c.set.ensures.set) ∙ c.task-its.ensures.value in
    item_answer read c.args.self.now c.self.inside.last.jobs c.task-its.result c.of-last.result c.args.task c.last_arrival-latest.result c.len.result c.args.arrival c.args.cost c.item_fault.result
    c.self.view_is c.set.ensures.in_range c.requires.positive c.requires.within at c.self.invariant.jobs c.of-last.ensures c.last_arrival-latest.ensures c.len.ensures.len c.item_fault.ensures.answer ∙
    ap (λ (o : Option ItemFault). unless o (c.args.self.now.plan ++ record { job = record { task = c.args.task; number = c.of-last.result.number + 1 }; arrival = c.args.arrival; cost = c.args.cost } ∷ [])) c.in-Some.is

pub returns-in-None-clause-answer : goal.returns-in-None-clause-answer
returns-in-None-clause-answer c =
    let read : PlanSoFar = record { set = c.self.inside.names; plan = c.self.inside.plan } in
    let at = ap (λ (ts : List Task). numbered ts c.args.task) (sym c.set.ensures.set) ∙ c.task-its.ensures.value in
    item_answer read c.args.self.now c.self.inside.last.jobs c.task-its.result c.of-last.result c.args.task c.last_arrival-latest.result c.len.result c.args.arrival c.args.cost c.item_fault.result
    c.self.view_is c.set.ensures.in_range c.requires.positive c.requires.within at c.self.invariant.jobs c.of-last.ensures c.last_arrival-latest.ensures c.len.ensures.len c.item_fault.ensures.answer ∙
    ap (λ (o : Option ItemFault). unless o (c.args.self.now.plan ++ record { job = record { task = c.args.task; number = c.of-last.result.number + 1 }; arrival = c.args.arrival; cost = c.args.cost } ∷ [])) c.in-None.is

pub returns-in-None-clause-comes : goal.returns-in-None-clause-comes
returns-in-None-clause-comes c =
    let read : PlanSoFar = record { set = c.self.inside.names; plan = c.self.inside.plan } in
    let at = ap (λ (ts : List Task). numbered ts c.args.task) (sym c.set.ensures.set) ∙ c.task-its.ensures.value in
    item_may read c.args.self.now c.self.inside.last.jobs c.task-its.result c.of-last.result c.args.task c.last_arrival-latest.result c.len.result c.args.arrival c.args.cost
    c.self.view_is c.set.ensures.in_range c.requires.positive c.requires.within at c.self.invariant.jobs c.of-last.ensures c.task-its.ensures.in_range.2 c.in-None.ensures.fine
