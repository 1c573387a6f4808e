use Rattle.std.proofs.Common.{◌≡◌, ◌-◌, ◌++◌, length, replicate, None, true, sym, ap, subst, ◌∙◌, arith}
use Rattle.yt_exec.specs.Moments.{at_tick}
use Rattle.yt_exec.specs.StandsFor.{IdlesTo}
use Rattle.yt_runner.specs.Inside.Going.{GoesRound}
use Rattle.yt_runner.specs.Inside.State.{RunnerState}
use Rattle.yt_runner.proofs.Rounds.{idles, is_over, tick_early, tick_later}
use Rattle.yt_runner.proofs.running.Running.idle.Goals as goal

pub returns-in_default-clause-goes : goal.returns-in_default-clause-goes
returns-in_default-clause-goes c = is_over c.handlers_go_on.ensures c.args.self.now c.requires.placed c.args.upto c.requires.early c.requires.none c.in_default.ensures

pub idle_until-requires-clause-later : goal.idle_until-requires-clause-later
idle_until-requires-clause-later c =
    let later = tick_later c.handlers_go_on.ensures c.args.self.now c.requires.placed c.in-Some.time c.in-Some.ensures c.requires.feeds c.args.upto c.requires.early c.min-tick.result c.min-tick.ensures in
    let clock = c.requires.placed.clock in
    let same = ap (λ (s : RunnerState). s.moment.clock) c.self.view_is in
    omega arith

pub idle_until-requires-clause-clock : goal.idle_until-requires-clause-clock
idle_until-requires-clause-clock c =
    let early = tick_early c.handlers_go_on.ensures c.args.self.now c.requires.placed c.in-Some.time c.in-Some.ensures c.requires.feeds c.args.upto c.requires.early c.min-tick.result c.min-tick.ensures in
    omega arith

pub returns-clause-goes : goal.returns-clause-goes
returns-clause-goes c =
    let now = c.args.self.now in
    let tick = c.min-tick.result in
    let moment = c.idle_until.new.self in
    let log = c.tell_idle.new.self in
    let is : moment ≡ at_tick tick now.moment = c.idle_until.ensures.at ∙ ap (λ (s : RunnerState). at_tick tick s.moment) c.self.view_is in
    let on = subst (λ (s : RunnerState). IdlesTo s.moment moment) c.self.view_is c.idle_until.ensures.stands in
    let told : log ≡ now.log ++ replicate (tick - length now.log) None = c.tell_idle.ensures ∙ ap (λ (s : RunnerState). s.log ++ replicate (tick - length s.log) None) c.self.view_is in
    subst (λ (s : RunnerState). GoesRound c.args.upto now (record s { moment = moment; log = log }) true) (sym c.self.view_is)
    (idles c.handlers_go_on.ensures now c.requires.placed c.in-Some.time c.in-Some.ensures c.requires.feeds c.args.upto c.requires.early tick c.min-tick.ensures moment is on log told)
