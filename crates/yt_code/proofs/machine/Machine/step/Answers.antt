use Rattle.std.proofs.Common.{length, ap, subst}
use Rattle.std.specs.Prelude.{◌≡◌, slice_get, Some}
use Rattle.yt_code.proofs.Ready.{stands, finds, ready_after}
use Rattle.yt_code.proofs.machine.Machine.step.Goals as goal

pub at-instr-requires : goal.at-instr-requires
at-instr-requires g c =
    rw (ap (λ m. m.place) c.self.view_is) (stands c.args.code.now c.args.self.now c.requires.ready)

pub act-requires-clause-finds : goal.act-requires-clause-finds
act-requires-clause-finds g c =
    let place = ap (λ m. m.place) c.self.view_is in
    let at = subst (λ p. slice_get c.args.code.now.instrs p ≡ Some c.at-instr.result.now) place c.at-instr.ensures.value in
    finds c.args.code.now c.args.self.now (length c.args.vars.now) c.at-instr.result.now c.requires.ready c.requires.vars at

pub returns-clause-ready : goal.returns-clause-ready
returns-clause-ready g c =
    let place = ap (λ m. m.place) c.self.view_is in
    let at = subst (λ p. slice_get c.args.code.now.instrs p ≡ Some c.at-instr.result.now) place c.at-instr.ensures.value in
    ready_after c.args.code.now c.args.self.now c.args.vars.now c.at-instr.result.now c.requires.ready c.requires.vars at c.act.new.self c.act.new.vars c.act.result c.act.ensures.tick
