use Rattle.std.proofs.Common.{◌≡◌, ◌↔◌, ◌<◌, List, length, set, ap, sym, subst, ◌∙◌, arith}
use Rattle.std.specs.Prelude.{ℤ}
use Rattle.std.specs.Vec.{with_items}
use Rattle.std.proofs.lemmas.List.{with_items_is}
use Rattle.yt_exec.specs.Bodies.{MayStillBegin, Steps}
use Rattle.yt_body.specs.declared.port_run.PortStage.TheVariants.{Idle}
use Rattle.yt_body.specs.Sound.{IsSound}
use Rattle.yt_body.specs.State.{HandlersState, MayBegin, left_at}
use Rattle.yt_body.specs.Steps.{StepsJob}
use Rattle.yt_body.proofs.Facts.{code_read}
use Rattle.yt_body.proofs.Frames.{run_read, state, there}
use Rattle.yt_body.proofs.Jobs.{step_inside}
use Rattle.yt_body.proofs.Steppings.{needs_apart, needs_begun, needs_early, needs_handled, needs_next, needs_ready, needs_takes, needs_there, needs_vars, ready_read, step_last, step_leaves, step_may, step_sound, step_steps, ticks_read}
use Rattle.yt_body.proofs.handlers.HandlersBody.step.Goals as goal

pub tick-requires-clause-takes : goal.tick-requires-clause-takes
tick-requires-clause-takes c =
    let i = c.self.inside in
    let job = c.args.job in
    let some = subst (λ (s : HandlersState). 0 < left_at s job) (sym c.self.view_is) c.requires in
    let inside = step_inside i.accepted.now c.self.invariant.0 i.runs.items i.vars.items i.outs.channels c.self.invariant.1 job some in
    let code = code_read i.accepted.now c.self.invariant.0 job.task inside c.codes.result.now c.codes.ensures.codes c.code-code.result.now c.code-code.ensures in
    let lt = there i.accepted.now i.runs.items i.vars.items i.vars.items i.outs.channels i.outs.channels job.task c.index_mut.result.now c.self.invariant.1 inside in
    let read = run_read i.runs.items job.task c.index_mut.result.now lt c.index_mut.ensures.value in
    needs_takes i.accepted.now c.self.invariant.0 i.runs.items i.vars.items i.outs.channels c.self.invariant.1 job some c.code-code.result.now code c.index_mut.result.now read c.deref_mut.result.now c.deref_mut.ensures.value

pub tick-requires-clause-ready : goal.tick-requires-clause-ready
tick-requires-clause-ready c =
    let i = c.self.inside in
    let job = c.args.job in
    let some = subst (λ (s : HandlersState). 0 < left_at s job) (sym c.self.view_is) c.requires in
    let inside = step_inside i.accepted.now c.self.invariant.0 i.runs.items i.vars.items i.outs.channels c.self.invariant.1 job some in
    let code = code_read i.accepted.now c.self.invariant.0 job.task inside c.codes.result.now c.codes.ensures.codes c.code-code.result.now c.code-code.ensures in
    let lt = there i.accepted.now i.runs.items i.vars.items i.vars.items i.outs.channels i.outs.channels job.task c.index_mut.result.now c.self.invariant.1 inside in
    let read = run_read i.runs.items job.task c.index_mut.result.now lt c.index_mut.ensures.value in
    needs_ready i.accepted.now c.self.invariant.0 i.runs.items i.vars.items i.outs.channels c.self.invariant.1 job some c.code-code.result.now code c.index_mut.result.now read c.deref_mut.result.now c.deref_mut.ensures.value

pub tick-requires-clause-vars : goal.tick-requires-clause-vars
tick-requires-clause-vars c =
    let i = c.self.inside in
    let job = c.args.job in
    let some = subst (λ (s : HandlersState). 0 < left_at s job) (sym c.self.view_is) c.requires in
    let inside = step_inside i.accepted.now c.self.invariant.0 i.runs.items i.vars.items i.outs.channels c.self.invariant.1 job some in
    let code = code_read i.accepted.now c.self.invariant.0 job.task inside c.codes.result.now c.codes.ensures.codes c.code-code.result.now c.code-code.ensures in
    let lt = there i.accepted.now i.runs.items i.vars.items i.vars.items i.outs.channels i.outs.channels job.task c.index_mut.result.now c.self.invariant.1 inside in
    let read = run_read i.runs.items job.task c.index_mut.result.now lt c.index_mut.ensures.value in
    needs_vars i.accepted.now c.self.invariant.0 i.runs.items i.vars.items i.outs.channels c.self.invariant.1 job some c.code-code.result.now code c.index_mut.result.now read c.deref_mut.result.now c.deref_mut.ensures.value

pub tick-requires-clause-apart : goal.tick-requires-clause-apart
tick-requires-clause-apart c =
    let i = c.self.inside in
    let job = c.args.job in
    let some = subst (λ (s : HandlersState). 0 < left_at s job) (sym c.self.view_is) c.requires in
    let inside = step_inside i.accepted.now c.self.invariant.0 i.runs.items i.vars.items i.outs.channels c.self.invariant.1 job some in
    let code = code_read i.accepted.now c.self.invariant.0 job.task inside c.codes.result.now c.codes.ensures.codes c.code-code.result.now c.code-code.ensures in
    let lt = there i.accepted.now i.runs.items i.vars.items i.vars.items i.outs.channels i.outs.channels job.task c.index_mut.result.now c.self.invariant.1 inside in
    let read = run_read i.runs.items job.task c.index_mut.result.now lt c.index_mut.ensures.value in
    needs_apart i.accepted.now c.self.invariant.0 i.runs.items i.vars.items i.outs.channels c.self.invariant.1 job some c.code-code.result.now code c.index_mut.result.now read c.deref_mut.result.now c.deref_mut.ensures.value

pub tick-requires-clause-begun : goal.tick-requires-clause-begun
tick-requires-clause-begun c =
    let i = c.self.inside in
    let job = c.args.job in
    let some = subst (λ (s : HandlersState). 0 < left_at s job) (sym c.self.view_is) c.requires in
    let inside = step_inside i.accepted.now c.self.invariant.0 i.runs.items i.vars.items i.outs.channels c.self.invariant.1 job some in
    let code = code_read i.accepted.now c.self.invariant.0 job.task inside c.codes.result.now c.codes.ensures.codes c.code-code.result.now c.code-code.ensures in
    let lt = there i.accepted.now i.runs.items i.vars.items i.vars.items i.outs.channels i.outs.channels job.task c.index_mut.result.now c.self.invariant.1 inside in
    let read = run_read i.runs.items job.task c.index_mut.result.now lt c.index_mut.ensures.value in
    needs_begun i.accepted.now c.self.invariant.0 i.runs.items i.vars.items i.outs.channels c.self.invariant.1 job some c.code-code.result.now code c.index_mut.result.now read c.deref_mut.result.now c.deref_mut.ensures.value

pub tick-requires-clause-there : goal.tick-requires-clause-there
tick-requires-clause-there c =
    let i = c.self.inside in
    let job = c.args.job in
    let some = subst (λ (s : HandlersState). 0 < left_at s job) (sym c.self.view_is) c.requires in
    let inside = step_inside i.accepted.now c.self.invariant.0 i.runs.items i.vars.items i.outs.channels c.self.invariant.1 job some in
    let code = code_read i.accepted.now c.self.invariant.0 job.task inside c.codes.result.now c.codes.ensures.codes c.code-code.result.now c.code-code.ensures in
    let lt = there i.accepted.now i.runs.items i.vars.items i.vars.items i.outs.channels i.outs.channels job.task c.index_mut.result.now c.self.invariant.1 inside in
    let read = run_read i.runs.items job.task c.index_mut.result.now lt c.index_mut.ensures.value in
    needs_there i.accepted.now c.self.invariant.0 i.runs.items i.vars.items i.outs.channels c.self.invariant.1 job some c.code-code.result.now code c.index_mut.result.now read c.deref_mut.result.now c.deref_mut.ensures.value

pub tick-requires-clause-handled : goal.tick-requires-clause-handled
tick-requires-clause-handled c =
    let i = c.self.inside in
    let job = c.args.job in
    let some = subst (λ (s : HandlersState). 0 < left_at s job) (sym c.self.view_is) c.requires in
    let inside = step_inside i.accepted.now c.self.invariant.0 i.runs.items i.vars.items i.outs.channels c.self.invariant.1 job some in
    let code = code_read i.accepted.now c.self.invariant.0 job.task inside c.codes.result.now c.codes.ensures.codes c.code-code.result.now c.code-code.ensures in
    let lt = there i.accepted.now i.runs.items i.vars.items i.vars.items i.outs.channels i.outs.channels job.task c.index_mut.result.now c.self.invariant.1 inside in
    let read = run_read i.runs.items job.task c.index_mut.result.now lt c.index_mut.ensures.value in
    needs_handled i.accepted.now c.self.invariant.0 i.runs.items i.vars.items i.outs.channels c.self.invariant.1 job some c.code-code.result.now code c.index_mut.result.now read c.deref_mut.result.now c.deref_mut.ensures.value

pub tick-requires-clause-next : goal.tick-requires-clause-next
tick-requires-clause-next c =
    let i = c.self.inside in
    let job = c.args.job in
    let some = subst (λ (s : HandlersState). 0 < left_at s job) (sym c.self.view_is) c.requires in
    let inside = step_inside i.accepted.now c.self.invariant.0 i.runs.items i.vars.items i.outs.channels c.self.invariant.1 job some in
    let code = code_read i.accepted.now c.self.invariant.0 job.task inside c.codes.result.now c.codes.ensures.codes c.code-code.result.now c.code-code.ensures in
    let lt = there i.accepted.now i.runs.items i.vars.items i.vars.items i.outs.channels i.outs.channels job.task c.index_mut.result.now c.self.invariant.1 inside in
    let read = run_read i.runs.items job.task c.index_mut.result.now lt c.index_mut.ensures.value in
    needs_next i.accepted.now c.self.invariant.0 i.runs.items i.vars.items i.outs.channels c.self.invariant.1 job some c.code-code.result.now code c.index_mut.result.now read c.deref_mut.result.now c.deref_mut.ensures.value

pub tick-requires-clause-early : goal.tick-requires-clause-early
tick-requires-clause-early c =
    let i = c.self.inside in
    let job = c.args.job in
    let some = subst (λ (s : HandlersState). 0 < left_at s job) (sym c.self.view_is) c.requires in
    let inside = step_inside i.accepted.now c.self.invariant.0 i.runs.items i.vars.items i.outs.channels c.self.invariant.1 job some in
    let code = code_read i.accepted.now c.self.invariant.0 job.task inside c.codes.result.now c.codes.ensures.codes c.code-code.result.now c.code-code.ensures in
    let lt = there i.accepted.now i.runs.items i.vars.items i.vars.items i.outs.channels i.outs.channels job.task c.index_mut.result.now c.self.invariant.1 inside in
    let read = run_read i.runs.items job.task c.index_mut.result.now lt c.index_mut.ensures.value in
    needs_early i.accepted.now c.self.invariant.0 i.runs.items i.vars.items i.outs.channels c.self.invariant.1 job some c.code-code.result.now code c.index_mut.result.now read c.deref_mut.result.now c.deref_mut.ensures.value

pub invariant_of-self : goal.invariant_of-self
invariant_of-self c =
    let i = c.self.inside in
    let job = c.args.job in
    let some = subst (λ (s : HandlersState). 0 < left_at s job) (sym c.self.view_is) c.requires in
    let inside = step_inside i.accepted.now c.self.invariant.0 i.runs.items i.vars.items i.outs.channels c.self.invariant.1 job some in
    let code = code_read i.accepted.now c.self.invariant.0 job.task inside c.codes.result.now c.codes.ensures.codes c.code-code.result.now c.code-code.ensures in
    let lt = there i.accepted.now i.runs.items i.vars.items i.vars.items i.outs.channels i.outs.channels job.task c.index_mut.result.now c.self.invariant.1 inside in
    let read = run_read i.runs.items job.task c.index_mut.result.now lt c.index_mut.ensures.value in
    let run = c.tick.new.run in
    let ws = c.tick.new.vars in
    let new = c.tick.new.outs.channels in
    let long : length ws ≡ i.vars.len = let a = c.tick.auto.vars in let b = c.deref_mut.ensures.len in omega arith in
    let same = sym (with_items_is i.vars ws long) in
    let t = ticks_read i.accepted.now c.self.invariant.0 i.runs.items i.vars.items i.outs.channels c.self.invariant.1 job some c.code-code.result.now code c.index_mut.result.now read c.deref_mut.result.now c.deref_mut.ensures.value run ws new c.tick.ensures.ticks in
    let ready = ready_read i.accepted.now c.self.invariant.0 i.runs.items i.vars.items i.outs.channels c.self.invariant.1 job some c.code-code.result.now code c.index_mut.result.now read c.deref_mut.result.now c.deref_mut.ensures.value run c.tick.ensures.ready in
    (c.self.invariant.0, subst (λ (ys : List ℤ). IsSound (state i.accepted.now (set i.runs.items job.task run) ys new)) same (step_sound i.accepted.now c.self.invariant.0 i.runs.items i.vars.items i.outs.channels c.self.invariant.1 job some run ws new t ready))

pub returns-clause-stepped : goal.returns-clause-stepped
returns-clause-stepped c =
    let i = c.self.inside in
    let job = c.args.job in
    let some = subst (λ (s : HandlersState). 0 < left_at s job) (sym c.self.view_is) c.requires in
    let inside = step_inside i.accepted.now c.self.invariant.0 i.runs.items i.vars.items i.outs.channels c.self.invariant.1 job some in
    let code = code_read i.accepted.now c.self.invariant.0 job.task inside c.codes.result.now c.codes.ensures.codes c.code-code.result.now c.code-code.ensures in
    let lt = there i.accepted.now i.runs.items i.vars.items i.vars.items i.outs.channels i.outs.channels job.task c.index_mut.result.now c.self.invariant.1 inside in
    let read = run_read i.runs.items job.task c.index_mut.result.now lt c.index_mut.ensures.value in
    let run = c.tick.new.run in
    let ws = c.tick.new.vars in
    let new = c.tick.new.outs.channels in
    let long : length ws ≡ i.vars.len = let a = c.tick.auto.vars in let b = c.deref_mut.ensures.len in omega arith in
    let same = sym (with_items_is i.vars ws long) in
    let t = ticks_read i.accepted.now c.self.invariant.0 i.runs.items i.vars.items i.outs.channels c.self.invariant.1 job some c.code-code.result.now code c.index_mut.result.now read c.deref_mut.result.now c.deref_mut.ensures.value run ws new c.tick.ensures.ticks in
    let ready = ready_read i.accepted.now c.self.invariant.0 i.runs.items i.vars.items i.outs.channels c.self.invariant.1 job some c.code-code.result.now code c.index_mut.result.now read c.deref_mut.result.now c.deref_mut.ensures.value run c.tick.ensures.ready in
    subst (λ (s : HandlersState). Steps (left_at s) (left_at (state i.accepted.now (set i.runs.items job.task run) (with_items i.vars ws).items new)) job) c.self.view_is
    (subst (λ (ys : List ℤ). Steps (left_at (state i.accepted.now i.runs.items i.vars.items i.outs.channels)) (left_at (state i.accepted.now (set i.runs.items job.task run) ys new)) job) same (step_steps i.accepted.now c.self.invariant.0 i.runs.items i.vars.items i.outs.channels c.self.invariant.1 job some run ws new t ready))

pub returns-clause-last : goal.returns-clause-last
returns-clause-last c =
    let i = c.self.inside in
    let job = c.args.job in
    let some = subst (λ (s : HandlersState). 0 < left_at s job) (sym c.self.view_is) c.requires in
    let inside = step_inside i.accepted.now c.self.invariant.0 i.runs.items i.vars.items i.outs.channels c.self.invariant.1 job some in
    let code = code_read i.accepted.now c.self.invariant.0 job.task inside c.codes.result.now c.codes.ensures.codes c.code-code.result.now c.code-code.ensures in
    let lt = there i.accepted.now i.runs.items i.vars.items i.vars.items i.outs.channels i.outs.channels job.task c.index_mut.result.now c.self.invariant.1 inside in
    let read = run_read i.runs.items job.task c.index_mut.result.now lt c.index_mut.ensures.value in
    let run = c.tick.new.run in
    let ws = c.tick.new.vars in
    let new = c.tick.new.outs.channels in
    let long : length ws ≡ i.vars.len = let a = c.tick.auto.vars in let b = c.deref_mut.ensures.len in omega arith in
    let same = sym (with_items_is i.vars ws long) in
    let t = ticks_read i.accepted.now c.self.invariant.0 i.runs.items i.vars.items i.outs.channels c.self.invariant.1 job some c.code-code.result.now code c.index_mut.result.now read c.deref_mut.result.now c.deref_mut.ensures.value run ws new c.tick.ensures.ticks in
    let ready = ready_read i.accepted.now c.self.invariant.0 i.runs.items i.vars.items i.outs.channels c.self.invariant.1 job some c.code-code.result.now code c.index_mut.result.now read c.deref_mut.result.now c.deref_mut.ensures.value run c.tick.ensures.ready in
    let last = subst (λ (ys : List ℤ). (run.stage ≡ Idle) ↔ (left_at (state i.accepted.now (set i.runs.items job.task run) ys new) job ≡ 0)) same (step_last i.accepted.now c.self.invariant.0 i.runs.items i.vars.items i.outs.channels c.self.invariant.1 job some run ws new t ready) in
    let said = c.tick.ensures.last in
    (λ e. last.0 (said.0 e), λ none. said.1 (last.1 none))

pub returns-clause-may : goal.returns-clause-may
returns-clause-may c =
    let i = c.self.inside in
    let job = c.args.job in
    let some = subst (λ (s : HandlersState). 0 < left_at s job) (sym c.self.view_is) c.requires in
    let inside = step_inside i.accepted.now c.self.invariant.0 i.runs.items i.vars.items i.outs.channels c.self.invariant.1 job some in
    let code = code_read i.accepted.now c.self.invariant.0 job.task inside c.codes.result.now c.codes.ensures.codes c.code-code.result.now c.code-code.ensures in
    let lt = there i.accepted.now i.runs.items i.vars.items i.vars.items i.outs.channels i.outs.channels job.task c.index_mut.result.now c.self.invariant.1 inside in
    let read = run_read i.runs.items job.task c.index_mut.result.now lt c.index_mut.ensures.value in
    let run = c.tick.new.run in
    let ws = c.tick.new.vars in
    let new = c.tick.new.outs.channels in
    let long : length ws ≡ i.vars.len = let a = c.tick.auto.vars in let b = c.deref_mut.ensures.len in omega arith in
    let same = sym (with_items_is i.vars ws long) in
    let t = ticks_read i.accepted.now c.self.invariant.0 i.runs.items i.vars.items i.outs.channels c.self.invariant.1 job some c.code-code.result.now code c.index_mut.result.now read c.deref_mut.result.now c.deref_mut.ensures.value run ws new c.tick.ensures.ticks in
    let ready = ready_read i.accepted.now c.self.invariant.0 i.runs.items i.vars.items i.outs.channels c.self.invariant.1 job some c.code-code.result.now code c.index_mut.result.now read c.deref_mut.result.now c.deref_mut.ensures.value run c.tick.ensures.ready in
    subst (λ (s : HandlersState). MayStillBegin (MayBegin s) (MayBegin (state i.accepted.now (set i.runs.items job.task run) (with_items i.vars ws).items new)) job) c.self.view_is
    (subst (λ (ys : List ℤ). MayStillBegin (MayBegin (state i.accepted.now i.runs.items i.vars.items i.outs.channels)) (MayBegin (state i.accepted.now (set i.runs.items job.task run) ys new)) job) same (step_may i.accepted.now c.self.invariant.0 i.runs.items i.vars.items i.outs.channels c.self.invariant.1 job some run ws new t ready))

pub returns-clause-leaves : goal.returns-clause-leaves
returns-clause-leaves c =
    let i = c.self.inside in
    let job = c.args.job in
    let some = subst (λ (s : HandlersState). 0 < left_at s job) (sym c.self.view_is) c.requires in
    let inside = step_inside i.accepted.now c.self.invariant.0 i.runs.items i.vars.items i.outs.channels c.self.invariant.1 job some in
    let code = code_read i.accepted.now c.self.invariant.0 job.task inside c.codes.result.now c.codes.ensures.codes c.code-code.result.now c.code-code.ensures in
    let lt = there i.accepted.now i.runs.items i.vars.items i.vars.items i.outs.channels i.outs.channels job.task c.index_mut.result.now c.self.invariant.1 inside in
    let read = run_read i.runs.items job.task c.index_mut.result.now lt c.index_mut.ensures.value in
    let run = c.tick.new.run in
    let ws = c.tick.new.vars in
    let new = c.tick.new.outs.channels in
    let long : length ws ≡ i.vars.len = let a = c.tick.auto.vars in let b = c.deref_mut.ensures.len in omega arith in
    let same = sym (with_items_is i.vars ws long) in
    let t = ticks_read i.accepted.now c.self.invariant.0 i.runs.items i.vars.items i.outs.channels c.self.invariant.1 job some c.code-code.result.now code c.index_mut.result.now read c.deref_mut.result.now c.deref_mut.ensures.value run ws new c.tick.ensures.ticks in
    let ready = ready_read i.accepted.now c.self.invariant.0 i.runs.items i.vars.items i.outs.channels c.self.invariant.1 job some c.code-code.result.now code c.index_mut.result.now read c.deref_mut.result.now c.deref_mut.ensures.value run c.tick.ensures.ready in
    subst (λ (s : HandlersState). StepsJob s job (state i.accepted.now (set i.runs.items job.task run) (with_items i.vars ws).items new)) c.self.view_is
    (subst (λ (ys : List ℤ). StepsJob (state i.accepted.now i.runs.items i.vars.items i.outs.channels) job (state i.accepted.now (set i.runs.items job.task run) ys new)) same (step_leaves i.accepted.now c.self.invariant.0 i.runs.items i.vars.items i.outs.channels c.self.invariant.1 job some run ws new t ready))
