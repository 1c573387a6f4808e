use Rattle.std.proofs.Common.{refl, sym, subst}
use Rattle.yt_exec.specs.Bodies.{IsKnown}
use Rattle.yt_exec.specs.Moments.{Moment, IsNextJob}
use Rattle.yt_exec.proofs.Readings.{task_read, put_released}
use Rattle.yt_exec.proofs.Sounds.{sound_more}
use Rattle.yt_exec.proofs.Standing.{release_stands}
use Rattle.yt_exec.proofs.executive.Executive.release.Goals as goal

pub invariant_of-self : goal.invariant_of-self
invariant_of-self c =
    let i = c.self.inside in
    let known : IsKnown i.tasks.items c.args.job = subst (λ (m : Moment). IsKnown m.tasks c.args.job) (sym c.self.view_is) c.requires.known in
    let next = subst (λ (m : Moment). IsNextJob m c.args.job) (sym c.self.view_is) c.requires.next in
    let task = task_read i.tasks.items c.args.job.task c.index.result.now known.0 known.1 c.index.ensures in
    let put = put_released i.ready.entries c.push.new.self.entries i.tasks.items i.clock c.args.job c.index.result.now c.deadline-deadline.result task c.deadline-deadline.ensures c.push.ensures.added in
    (sound_more i.tasks.items i.ready.entries i.clock i.releases.items c.self.invariant.0 c.args.job known next.number c.push.new.self.entries put, c.self.invariant.1)

pub returns-clause-entries : goal.returns-clause-entries
returns-clause-entries c =
    let i = c.self.inside in
    let known : IsKnown i.tasks.items c.args.job = subst (λ (m : Moment). IsKnown m.tasks c.args.job) (sym c.self.view_is) c.requires.known in
    let task = task_read i.tasks.items c.args.job.task c.index.result.now known.0 known.1 c.index.ensures in
    rw (← c.self.view_is) (put_released i.ready.entries c.push.new.self.entries i.tasks.items i.clock c.args.job c.index.result.now c.deadline-deadline.result task c.deadline-deadline.ensures c.push.ensures.added)

pub returns-clause-stands : goal.returns-clause-stands
returns-clause-stands c =
    let i = c.self.inside in
    let known : IsKnown i.tasks.items c.args.job = subst (λ (m : Moment). IsKnown m.tasks c.args.job) (sym c.self.view_is) c.requires.known in
    let next = subst (λ (m : Moment). IsNextJob m c.args.job) (sym c.self.view_is) c.requires.next in
    let task = task_read i.tasks.items c.args.job.task c.index.result.now known.0 known.1 c.index.ensures in
    let put = put_released i.ready.entries c.push.new.self.entries i.tasks.items i.clock c.args.job c.index.result.now c.deadline-deadline.result task c.deadline-deadline.ensures c.push.ensures.added in
    rw (← c.self.view_is) (λ left plan log legal stands cost some most. release_stands _ left plan log legal stands c.self.invariant.0 _ c.args.job known next cost some most put refl refl refl)
