use Rattle.std.proofs.Common.{◌≡◌, List, length, refl, sym, ap, subst, ◌∙◌, arith}
use Rattle.yt_answer.specs.declared.answer.Answer.{Answer}
use Rattle.yt_set.specs.declared.task.Task.{Task}
use Rattle.yt_log.specs.Plan.{IsLegal, horizon}
use Rattle.yt_playing.proofs.Plays.{horizon_short, kept_due, made_lawful, made_long, miss_within, missed_due}
use Rattle.yt_playing.proofs.play.played_answer.Goals as goal

pub play-requires-clause-legal : goal.play-requires-clause-legal
play-requires-clause-legal c = subst (λ (ts : List Task). IsLegal ts c.args.plan.now) (sym c.set-set.ensures.set) c.requires.plan.legal

pub play-requires-clause-upto : goal.play-requires-clause-upto
play-requires-clause-upto c =
    let same : c.horizon-upto.result ≡ horizon c.args.named.now.tasks c.args.plan.now = c.horizon-upto.ensures ∙ ap (λ (ts : List Task). horizon ts c.args.plan.now) c.set-set.ensures.set in
    omega (arith, horizon_short c.args.named.now.tasks c.args.plan.now c.requires.set c.requires.plan)

pub first_miss-requires-clause-told : goal.first_miss-requires-clause-told
first_miss-requires-clause-told c =
    let long : length c.in_ok-log.log ≡ c.horizon-upto.result = made_long c.set-set.result.now c.args.plan.now c.horizon-upto.result c.in_ok-log.log c.in_ok-log.ensures.rule in
    omega arith

pub missed_text-requires : goal.missed_text-requires
missed_text-requires c =
    miss_within c.set-set.result.now c.args.plan.now c.in_ok-log.log c.horizon-upto.result c.in-Some.miss.job c.in-Some.miss.due
    (made_long c.set-set.result.now c.args.plan.now c.horizon-upto.result c.in_ok-log.log c.in_ok-log.ensures.rule) c.in-Some.ensures.first c.in-Some.ensures.due

pub returns-in-Some : goal.returns-in-Some
returns-in-Some c =
    missed_due c.args.named.now c.set-set.result.now c.args.plan.now c.in_ok-log.log c.horizon-upto.result c.in-Some.miss.job c.in-Some.miss.due c.labels.result.now c.in_ok-missed_text-in-Some.field-0
    c.requires.set c.requires.plan c.set-set.ensures.set c.horizon-upto.ensures c.in_ok-log.ensures.rule c.in-Some.ensures.first c.in-Some.ensures.due c.labels.ensures.labels c.in_ok-missed_text-in-Some.ensures

pub returns : goal.returns
returns c =
    let tasks = c.set-set.result.now in
    let lawful = made_lawful tasks c.args.plan.now c.horizon-upto.result c.in_ok-log.log (subst (λ (ts : List Task). IsLegal ts c.args.plan.now) (sym c.set-set.ensures.set) c.requires.plan.legal) c.in_ok-log.ensures.rule in
    let keeps = (c.in-None.ensures.keeps lawful).0 refl in
    kept_due c.args.named.now tasks c.args.plan.now c.in_ok-log.log c.horizon-upto.result c.labels-in-None.result.now c.done.result.verdict c.done.result.text
    c.requires.plan c.set-set.ensures.set c.horizon-upto.ensures c.in_ok-log.ensures.rule keeps c.labels-in-None.ensures.labels
    (ap (λ (a : Answer). a.verdict) c.done.ensures) (ap (λ (a : Answer). a.text) c.done.ensures ∙ c.in_ok-kept_text-in-None.ensures)
