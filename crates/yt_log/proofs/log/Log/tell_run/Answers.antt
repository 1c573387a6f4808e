use Rattle.std.proofs.Common.{arith}
use Rattle.yt_log.proofs.Tells.{Tells_until, Tells_run}
use Rattle.yt_log.proofs.log.Log.tell_run.Goals as goal

pub overflow_add-to : goal.overflow_add-to
overflow_add-to c =
    let long = Tells_until c.self.inside.segments.items c.self.inside.until c.args.self.now (record { view = c.self.view_is; invariant = c.self.invariant }) in
    omega arith

pub invariant_of-self-2 : goal.invariant_of-self-2
invariant_of-self-2 c =
    (Tells_run c.self.inside.segments.items c.add_run.new.segments.items c.self.inside.until c.args.ticks c.args.self.now c.args.job
    (record { view = c.self.view_is; invariant = c.self.invariant }) (omega arith) c.in_ok-add_run.ensures.ok).invariant

pub returns-clause-ok : goal.returns-clause-ok
returns-clause-ok c =
    (Tells_run c.self.inside.segments.items c.add_run.new.segments.items c.self.inside.until c.args.ticks c.args.self.now c.args.job
    (record { view = c.self.view_is; invariant = c.self.invariant }) (omega arith) c.in_ok-add_run.ensures.ok).view
