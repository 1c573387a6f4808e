use Rattle.std.proofs.Common.{◌≡◌, refl, sym, ap, subst, ◌∙◌}
use Rattle.yt_code.specs.declared.stepped.Stepped.{Stepped}
use Rattle.yt_code.specs.Step.{IsTick, instruction_step}
use Rattle.yt_body.specs.Steps.{TicksJob}
use Rattle.yt_body.proofs.Ticked.{still_apart, ticks}
use Rattle.yt_body.proofs.handlers.tick.Goals as goal

pub returns-in-Going-clause-ticks : goal.returns-in-Going-clause-ticks
returns-in-Going-clause-ticks c =
    let a = c.args in
    let is = subst (λ (st : Stepped). IsTick (instruction_step a.code.now.instrs a.run.now.machine a.vars.now) c.step.new.self c.step.new.vars st) c.in-Going.is c.step.ensures.tick in
    ticks a.code.now a.job a.run.now a.vars.now a.outs.now c.step.new.self c.step.new.vars _ c.step.new.out c.requires.port is c.step.ensures.left _ _ (refl, refl)

pub returns-in-Ended-clause-ticks : goal.returns-in-Ended-clause-ticks
returns-in-Ended-clause-ticks c =
    let a = c.args in
    let is = subst (λ (st : Stepped). IsTick (instruction_step a.code.now.instrs a.run.now.machine a.vars.now) c.step.new.self c.step.new.vars st) c.in-Ended.is c.step.ensures.tick in
    ticks a.code.now a.job a.run.now a.vars.now a.outs.now c.step.new.self c.step.new.vars _ c.step.new.out c.requires.port is c.step.ensures.left _ _ (refl, c.close.ensures)

pub close-requires-clause-apart : goal.close-requires-clause-apart
close-requires-clause-apart c =
    let a = c.args in
    still_apart a.code.now a.job a.run.now a.vars.now a.outs.now c.step.new.self c.step.new.vars c.step.result c.step.new.out c.requires.port c.step.ensures.left a.run.now.arrival c.requires.apart
