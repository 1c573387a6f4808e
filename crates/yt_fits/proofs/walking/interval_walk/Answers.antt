use Rattle.std.proofs.Common.{List, subst, arith}
use Rattle.yt_set.specs.declared.task.Task.{Task}
use Rattle.yt_fits.specs.Intervals.{IsFirstBreach}
use Rattle.yt_fits.proofs.IntervalLemmas.{breach_unfits}
use Rattle.yt_fits.proofs.WalkLemmas.{demand_small}
use Rattle.yt_fits.proofs.walking.interval_walk.Goals as goal

pub returns-in-Some-clause-none : goal.returns-in-Some-clause-none
returns-in-Some-clause-none c =
    let breach = c.in-Some.breach in
    let first : IsFirstBreach c.args.set.now breach = subst (λ (l : List Task). IsFirstBreach l breach) c.loop-walk.invariant.set c.in-Some.ensures.some in
    (λ none. absurd (cc), λ fits. absurd (breach_unfits c.args.set.now breach first.lowest fits))

pub loop-walk-smaller : goal.loop-walk-smaller
loop-walk-smaller c =
    let walk = c.count.new.self in
    let small = demand_small walk.set.now walk.streams.items walk.nexts.nodes walk.demand walk.point c.count.ensures.at in
    let more = c.count.ensures.more in
    omega arith
