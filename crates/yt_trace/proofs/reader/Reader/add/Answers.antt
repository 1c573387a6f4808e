use Rattle.std.proofs.Common.{length, refl, sym, subst}
use Rattle.yt_trace.specs.Inside.Reading.{IsNext, TraceSoFar}
use Rattle.yt_trace.proofs.Adding.{so_far_with}
use Rattle.yt_trace.proofs.reader.Reader.add.Goals as goal

pub invariant_of-result : goal.invariant_of-result
invariant_of-result c =
    let m = c.args.message in
    let next = subst (λ (r : TraceSoFar). IsNext r m.input m.time (length m.values)) (sym c.self.view_is) c.requires in
    so_far_with c.self.inside.inputs c.self.inside.trace c.push.new.self c.self.inside.last.times c.see.new.self.times m c.self.invariant next c.in_ok-push.ensures.ok
    (c.see.ensures c.self.inside.trace m c.self.invariant.last refl refl)
