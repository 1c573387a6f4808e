use Rattle.std.proofs.Common.{◌-◌, ◌≤◌, List, length, subst, sym, ◌∙◌, arith}
use Rattle.yt_log.specs.declared.plan.PlanItem.{PlanItem}
use Rattle.yt_list.proofs.Lemmas.{numbered_there}
use Rattle.yt_witness.specs.Inside.Merging.{AreSpread}
use Rattle.yt_witness.specs.Witnesses.{arrivals_of, as_arrivals}
use Rattle.yt_witness.proofs.Merging.{jobs_spread}
use Rattle.yt_witness.proofs.Places.{length_arrivals}
use Rattle.yt_witness.proofs.Plans.{none_behind, one_of_all, one_task}
use Rattle.yt_witness.proofs.plan.all_jobs.Goals as goal

pub loop-task-init : goal.loop-task-init
loop-task-init c =
    let all = arrivals_of c.args.set.now c.args.pattern.now in
    let count = length_arrivals c.args.set.now c.args.pattern.now in
    let end : length all ≤ c.len-task.result = omega arith in
    record { within = omega arith; jobs = c.new-items.ensures.items ∙ sym (none_behind all c.len-task.result end) }

pub jobs_of-requires-clause-few : goal.jobs_of-requires-clause-few
jobs_of-requires-clause-few c =
    let one = one_of_all c.args.set.now c.args.pattern.now (c.loop-task.task - 1) (as_arrivals c.arrive.result) (numbered_there (arrivals_of c.args.set.now c.args.pattern.now) c.loop-task.task (as_arrivals c.arrive.result) c.arrive.ensures.arrivals).1 in
    let few = c.requires.short.few in
    omega arith

pub merge-requires : goal.merge-requires
merge-requires c =
    let a = as_arrivals c.arrive.result in
    subst (λ (l : List PlanItem). AreSpread 0 l) (sym (c.deref.ensures.value ∙ c.in_ok-jobs.ensures)) (jobs_spread c.loop-task.task a a.count c.arrive.ensures.in_range.some)

pub loop-task-preserved : goal.loop-task-preserved
loop-task-preserved c =
    let all = arrivals_of c.args.set.now c.args.pattern.now in
    let a = as_arrivals c.arrive.result in
    let jobs = c.deref.ensures.value ∙ c.in_ok-jobs.ensures in
    let items = c.deref-in-loop-task.ensures.value ∙ c.loop-task.invariant.jobs in
    record {
      within = omega arith;
      jobs = c.in_ok-items.ensures
          ∙ one_task all c.loop-task.task a c.deref.result.now c.deref-in-loop-task.result.now c.arrive.ensures.arrivals jobs items;
    }
