use Rattle.std.proofs.Common.{◌≡◌, ◌≤◌, true, reverse, ap, ◌∙◌, sym, subst}
use Rattle.yt_log.specs.Plan.{IsLegalPlan, last_arrival}
use Rattle.yt_log.specs.Inside.LastJobs.{AreLast, may_come}
use Rattle.yt_log.specs.Inside.PlanReading.{PlanSoFar}
use Rattle.yt_log.proofs.PlanJudging.{coming_number}
use Rattle.yt_log.proofs.PlanReads.{come_few, legal_with, reverse-push}
use Rattle.yt_log.proofs.reader.Reader.add.Goals as goal

pub see-requires-clause-within : goal.see-requires-clause-within
see-requires-clause-within c =
    let may = subst (λ (r : PlanSoFar). may_come r.set.tasks (reverse r.plan) c.args.item ≡ true) (sym c.self.view_is) c.requires.comes in
    come_few c.self.inside.names.tasks (reverse c.self.inside.plan) c.args.item c.self.invariant.in_range may

pub invariant_of-self-2 : goal.invariant_of-self-2
invariant_of-self-2 c =
    let tasks = c.self.inside.names.tasks in
    let plan = c.self.inside.plan in
    let item = c.args.item in
    let may = subst (λ (r : PlanSoFar). may_come r.set.tasks (reverse r.plan) item ≡ true) (sym c.self.view_is) c.requires.comes in
    let order = subst (λ (r : PlanSoFar). last_arrival r.plan ≤ item.arrival) (sym c.self.view_is) c.requires.order in
    let more = c.in_ok-push.ensures.ok in
    record {
      in_range = c.self.invariant.in_range;
      legal = subst (IsLegalPlan tasks) (sym more) (legal_with tasks plan item c.self.invariant.in_range c.self.invariant.legal order may);
      jobs = subst (AreLast c.see.new.self.jobs) (sym (ap reverse more ∙ reverse-push plan item)) (c.see.ensures (reverse plan) c.self.invariant.jobs (coming_number tasks (reverse plan) item may));
    }
