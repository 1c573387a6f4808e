use Rattle.std.proofs.Common.{sym, subst}
use Rattle.yt_exec.specs.Moments.{Moment, at_tick, IsSound}
use Rattle.yt_exec.specs.StandsFor.{IdlesTo}
use Rattle.yt_exec.proofs.Idling.{idles_to}
use Rattle.yt_exec.proofs.executive.Executive.idle_until.Goals as goal

pub returns-clause-stands : goal.returns-clause-stands
returns-clause-stands c =
    let old = c.args.self.now in
    let sound = subst (λ (m : Moment). IsSound m.tasks m.entries m.clock m.releases) c.self.view_is c.self.invariant.0 in
    let on = idles_to old c.args.tick sound c.requires.idle c.requires.later c.requires.clock in
    subst (λ (m : Moment). IdlesTo old (at_tick c.args.tick m)) (sym c.self.view_is) on
