use Rattle.std.proofs.Common.{◌≡◌, length, set, refl, ap, sym, subst, ◌∙◌}
use Rattle.std.proofs.lemmas.Option.{same_Some}
use Rattle.yt_code.specs.Ready.{IsReady}
use Rattle.yt_code.specs.Valid.{Program}
use Rattle.yt_exec.specs.Bodies.{Begins, IsFree, MayStillBegin}
use Rattle.yt_body.specs.State.{HandlersState, MayBegin, code_at, left_at, run_at, set_of}
use Rattle.yt_body.specs.Steps.{BeginsJob}
use Rattle.yt_body.proofs.Facts.{code_is, code_read}
use Rattle.yt_body.proofs.Frames.{run_read, state, there}
use Rattle.yt_body.proofs.Jobs.{begin_leaves, begin_left, begin_may, begin_sound, begins_as, place_inside, was_placed}
use Rattle.yt_body.proofs.handlers.HandlersBody.begin.Goals as goal

pub begin-requires : goal.begin-requires
begin-requires c =
    let i = c.self.inside in
    let job = c.args.job in
    let may = subst (λ (s : HandlersState). MayBegin s job) (sym c.self.view_is) c.requires.may in
    let free = subst (λ (s : HandlersState). IsFree (set_of s) (left_at s) job) (sym c.self.view_is) c.requires.free in
    let inside = place_inside i.accepted.now c.self.invariant.0 i.runs.items i.vars.items i.outs.channels c.self.invariant.1 job may in
    let code = code_read i.accepted.now c.self.invariant.0 job.task inside c.codes.result.now c.codes.ensures.codes c.code-code.result.now c.code-code.ensures in
    let placed = was_placed i.accepted.now c.self.invariant.0 i.runs.items i.vars.items i.outs.channels c.self.invariant.1 job may in
    let same = same_Some c.message-message.result.now placed.message (sym c.message-message.ensures ∙ placed.placed) in
    ap length same ∙ placed.wide ∙ sym (ap (λ (p : Program). p.params) code ∙ (code_is i.accepted.now c.self.invariant.0 job.task inside).params)

pub invariant_of-self : goal.invariant_of-self
invariant_of-self c =
    let i = c.self.inside in
    let job = c.args.job in
    let may = subst (λ (s : HandlersState). MayBegin s job) (sym c.self.view_is) c.requires.may in
    let free = subst (λ (s : HandlersState). IsFree (set_of s) (left_at s) job) (sym c.self.view_is) c.requires.free in
    let inside = place_inside i.accepted.now c.self.invariant.0 i.runs.items i.vars.items i.outs.channels c.self.invariant.1 job may in
    let code = code_read i.accepted.now c.self.invariant.0 job.task inside c.codes.result.now c.codes.ensures.codes c.code-code.result.now c.code-code.ensures in
    let lt = there i.accepted.now i.runs.items i.vars.items i.vars.items i.outs.channels i.outs.channels job.task c.index_mut.result.now c.self.invariant.1 inside in
    let read = run_read i.runs.items job.task c.index_mut.result.now lt c.index_mut.ensures.value in
    let run = c.begin.new.self in
    let message = c.message-message.result.now in
    let is = begins_as (run_at (state i.accepted.now i.runs.items i.vars.items i.outs.channels) job.task) c.index_mut.result.now run (code_at i.accepted.now job.task) c.code-code.result.now message read code c.begin.ensures.begun in
    let ready = subst (λ (p : Program). IsReady p run.machine) code c.begin.ensures.ready in
    (c.self.invariant.0, begin_sound i.accepted.now c.self.invariant.0 i.runs.items i.vars.items i.outs.channels c.self.invariant.1 job may message run is ready free)

pub returns-clause-begun : goal.returns-clause-begun
returns-clause-begun c =
    let i = c.self.inside in
    let job = c.args.job in
    let may = subst (λ (s : HandlersState). MayBegin s job) (sym c.self.view_is) c.requires.may in
    let free = subst (λ (s : HandlersState). IsFree (set_of s) (left_at s) job) (sym c.self.view_is) c.requires.free in
    let inside = place_inside i.accepted.now c.self.invariant.0 i.runs.items i.vars.items i.outs.channels c.self.invariant.1 job may in
    let code = code_read i.accepted.now c.self.invariant.0 job.task inside c.codes.result.now c.codes.ensures.codes c.code-code.result.now c.code-code.ensures in
    let lt = there i.accepted.now i.runs.items i.vars.items i.vars.items i.outs.channels i.outs.channels job.task c.index_mut.result.now c.self.invariant.1 inside in
    let read = run_read i.runs.items job.task c.index_mut.result.now lt c.index_mut.ensures.value in
    let run = c.begin.new.self in
    let message = c.message-message.result.now in
    let is = begins_as (run_at (state i.accepted.now i.runs.items i.vars.items i.outs.channels) job.task) c.index_mut.result.now run (code_at i.accepted.now job.task) c.code-code.result.now message read code c.begin.ensures.begun in
    let ready = subst (λ (p : Program). IsReady p run.machine) code c.begin.ensures.ready in
    subst (λ (s : HandlersState). Begins (set_of s) (left_at s) (left_at (state i.accepted.now (set i.runs.items job.task run) i.vars.items i.outs.channels)) job) c.self.view_is (begin_left i.accepted.now c.self.invariant.0 i.runs.items i.vars.items i.outs.channels c.self.invariant.1 job may message run is ready free)

pub returns-clause-may : goal.returns-clause-may
returns-clause-may c =
    let i = c.self.inside in
    let job = c.args.job in
    let may = subst (λ (s : HandlersState). MayBegin s job) (sym c.self.view_is) c.requires.may in
    let free = subst (λ (s : HandlersState). IsFree (set_of s) (left_at s) job) (sym c.self.view_is) c.requires.free in
    let inside = place_inside i.accepted.now c.self.invariant.0 i.runs.items i.vars.items i.outs.channels c.self.invariant.1 job may in
    let code = code_read i.accepted.now c.self.invariant.0 job.task inside c.codes.result.now c.codes.ensures.codes c.code-code.result.now c.code-code.ensures in
    let lt = there i.accepted.now i.runs.items i.vars.items i.vars.items i.outs.channels i.outs.channels job.task c.index_mut.result.now c.self.invariant.1 inside in
    let read = run_read i.runs.items job.task c.index_mut.result.now lt c.index_mut.ensures.value in
    let run = c.begin.new.self in
    let message = c.message-message.result.now in
    let is = begins_as (run_at (state i.accepted.now i.runs.items i.vars.items i.outs.channels) job.task) c.index_mut.result.now run (code_at i.accepted.now job.task) c.code-code.result.now message read code c.begin.ensures.begun in
    let ready = subst (λ (p : Program). IsReady p run.machine) code c.begin.ensures.ready in
    subst (λ (s : HandlersState). MayStillBegin (MayBegin s) (MayBegin (state i.accepted.now (set i.runs.items job.task run) i.vars.items i.outs.channels)) job) c.self.view_is (begin_may i.accepted.now c.self.invariant.0 i.runs.items i.vars.items i.outs.channels c.self.invariant.1 job may message run is ready free)

pub returns-clause-leaves : goal.returns-clause-leaves
returns-clause-leaves c =
    let i = c.self.inside in
    let job = c.args.job in
    let may = subst (λ (s : HandlersState). MayBegin s job) (sym c.self.view_is) c.requires.may in
    let free = subst (λ (s : HandlersState). IsFree (set_of s) (left_at s) job) (sym c.self.view_is) c.requires.free in
    let inside = place_inside i.accepted.now c.self.invariant.0 i.runs.items i.vars.items i.outs.channels c.self.invariant.1 job may in
    let code = code_read i.accepted.now c.self.invariant.0 job.task inside c.codes.result.now c.codes.ensures.codes c.code-code.result.now c.code-code.ensures in
    let lt = there i.accepted.now i.runs.items i.vars.items i.vars.items i.outs.channels i.outs.channels job.task c.index_mut.result.now c.self.invariant.1 inside in
    let read = run_read i.runs.items job.task c.index_mut.result.now lt c.index_mut.ensures.value in
    let run = c.begin.new.self in
    let message = c.message-message.result.now in
    let is = begins_as (run_at (state i.accepted.now i.runs.items i.vars.items i.outs.channels) job.task) c.index_mut.result.now run (code_at i.accepted.now job.task) c.code-code.result.now message read code c.begin.ensures.begun in
    let ready = subst (λ (p : Program). IsReady p run.machine) code c.begin.ensures.ready in
    subst (λ (s : HandlersState). BeginsJob s job (state i.accepted.now (set i.runs.items job.task run) i.vars.items i.outs.channels)) c.self.view_is (begin_leaves i.accepted.now c.self.invariant.0 i.runs.items i.vars.items i.outs.channels c.self.invariant.1 job may message run is ready free c.message-message.ensures)
