use Rattle.std.proofs.Common.{List, sym, subst, ap, ◌∙◌}
use Rattle.yt_log.specs.Patterns.{MustMiss}
use Rattle.yt_log.specs.Plan.{IsLegalPlan}
use Rattle.yt_set.specs.declared.task.Task.{Task}
use Rattle.yt_witness.specs.Witnesses.{IsPatternOf, IsShort, horizon, plan_of}
use Rattle.yt_cmd_replay.proofs.Replays.{played_due}
use Rattle.yt_cmd_replay.proofs.answer.replay_pattern.Goals as goal

pub plan_of-requires : goal.plan_of-requires
plan_of-requires c = subst (λ (ts : List Task). IsPatternOf ts c.args.pattern.now) (sym c.set.ensures.set) c.requires.pattern

pub played_answer-requires-clause-plan : goal.played_answer-requires-clause-plan
played_answer-requires-clause-plan c = subst (λ (ts : List Task). IsLegalPlan ts c.in-Ok.plan) c.set.ensures.set c.in-Ok.ensures.legal

pub returns-in-Ok : goal.returns-in-Ok
returns-in-Ok c =
    let named = c.args.named.now in
    let pattern = c.args.pattern.now in
    let is = c.set.ensures.set in
    played_due named pattern c.in-Ok.plan c.played_answer.result
    (c.in-Ok.ensures.ok ∙ ap (λ (ts : List Task). plan_of ts pattern) is)
    (subst (λ (ts : List Task). IsShort ts pattern) is c.in-Ok.ensures.short)
    (subst (λ (ts : List Task). MustMiss ts c.in-Ok.plan (horizon pattern)) is c.in-Ok.ensures.misses)
    c.played_answer.ensures
