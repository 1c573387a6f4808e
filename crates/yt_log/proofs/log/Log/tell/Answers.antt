use Rattle.std.proofs.Common.{◌∷◌, ◌++◌, [], sym, ap, ◌∙◌, arith, Option}
use Rattle.yt_log.specs.declared.job.Job.{Job}
use Rattle.yt_log.proofs.Tells.{Tells_until, Tells_idle_tick}
use Rattle.yt_log.proofs.log.Log.tell.Goals as goal

pub overflow_add-self : goal.overflow_add-self
overflow_add-self c =
    let long = Tells_until c.self.inside.segments.items c.self.inside.until c.args.self.now (record { view = c.self.view_is; invariant = c.self.invariant }) in
    omega arith

pub invariant_of-self : goal.invariant_of-self
invariant_of-self c =
    (Tells_idle_tick c.self.inside.segments.items c.self.inside.until c.args.self.now (record { view = c.self.view_is; invariant = c.self.invariant })).invariant

pub returns-in-None-clause-ok : goal.returns-in-None-clause-ok
returns-in-None-clause-ok c =
    (Tells_idle_tick c.self.inside.segments.items c.self.inside.until c.args.self.now (record { view = c.self.view_is; invariant = c.self.invariant })).view ∙
    ap (λ (x : Option Job). c.args.self.now ++ x ∷ []) (sym c.in-None.is)
