use Rattle.std.proofs.Common.{◌≡◌, ℕ, ◌-◌, ◌++◌, length, replicate, None, sym, ap, ◌∙◌, arith}
use Rattle.std.proofs.lemmas.List.{append-nil}
use Rattle.yt_log.proofs.Tells.{Tells_until, Tells_idle}
use Rattle.yt_log.proofs.log.Log.tell_idle.Goals as goal

pub invariant_of-self : goal.invariant_of-self
invariant_of-self c =
    (Tells_idle c.self.inside.segments.items c.self.inside.until c.args.until c.args.self.now (record { view = c.self.view_is; invariant = c.self.invariant }) (omega arith)).invariant

pub returns-then-self-until : goal.returns-then-self-until
returns-then-self-until c =
    (Tells_idle c.self.inside.segments.items c.self.inside.until c.args.until c.args.self.now (record { view = c.self.view_is; invariant = c.self.invariant }) (omega arith)).view

pub returns-else-self-until : goal.returns-else-self-until
returns-else-self-until c =
    let log = c.args.self.now in
    let long = Tells_until c.self.inside.segments.items c.self.inside.until log (record { view = c.self.view_is; invariant = c.self.invariant }) in
    let none : c.args.until - length log ≡ 0 = omega arith in
    sym (ap (λ (n : ℕ). log ++ replicate n None) none ∙ append-nil log)
