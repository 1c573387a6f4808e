use Rattle.std.proofs.Common.{◌≡◌, ℕ, ◌+◌, ◌<◌, ◌≤◌, ◌^◌, length, get_or, set, Option, None, Some, refl, ap, sym, subst, ◌∙◌, arith}
use Rattle.std.specs.Prelude.{⊤, MatchOption}
use Rattle.yt_chan.specs.declared.target.Arrived.{Arrived}
use Rattle.yt_chan.specs.declared.target.Arrived.TheVariants.{Output, Port}
use Rattle.yt_chan.specs.Changes.{Delivers}
use Rattle.yt_chan.specs.State.{ChannelState, IsArriving, IsNext, NoneIsLate}
use Rattle.yt_body.specs.declared.port_run.PortRun.{PortRun}
use Rattle.yt_body.specs.Sound.{MayCome}
use Rattle.yt_body.specs.State.{HandlersState, no_run}
use Rattle.yt_body.specs.Steps.{Comes, with_message}
use Rattle.yt_body.proofs.Comings.{comes_inside, comes_port, deliver_sound, next_free, show_sound}
use Rattle.yt_body.proofs.Fresh.{start_sound}
use Rattle.yt_body.proofs.Frames.{run_read, state, there}
use Rattle.yt_body.proofs.handlers.Handlers.deliver.Goals as goal

by_match : (o : Option Arrived) (A : Type 0) → A → MatchOption o A (λ _. ⊤)
by_match None A a = a
by_match (Some t) A a = tt

pub deliver_one-requires-clause-none_late : goal.deliver_one-requires-clause-none_late
deliver_one-requires-clause-none_late c = subst (λ (s : HandlersState). NoneIsLate s.channels c.args.now) (sym c.self.view_is) c.requires.none_late

pub deliver_one-requires-clause-free : goal.deliver_one-requires-clause-free
deliver_one-requires-clause-free c =
    let i = c.self.inside in
    let may = subst (λ (s : HandlersState). (port : ℕ) → IsNext s.channels c.args.now (Port port) → MayCome s port c.args.now) (sym c.self.view_is) c.requires.may in
    next_free i.accepted.now c.self.invariant.0 i.runs.items i.vars.items i.outs.channels c.self.invariant.1 c.args.now may

pub returns-in_err-target-clause-none : goal.returns-in_err-target-clause-none
returns-in_err-target-clause-none c =
    let none = subst (λ (s : HandlersState). (target : Arrived) → IsArriving s.channels c.args.now target → ⊥) c.self.view_is c.in_err-target.ensures.none in
    by_match c.from_residual.result _ none

pub index_mut-requires : goal.index_mut-requires
index_mut-requires c =
    let i = c.self.inside in
    let may = subst (λ (s : HandlersState). (port : ℕ) → IsNext s.channels c.args.now (Port port) → MayCome s port c.args.now) (sym c.self.view_is) c.requires.may in
    let port = c.in-Port.port in
    let new = c.deliver_one.new.self in
    let d = subst (λ (t : Arrived). Delivers i.outs.channels new c.args.now t) c.in-Port.is c.in_ok-target.ensures.delivered in
    let inside = comes_inside i.accepted.now c.self.invariant.0 i.runs.items i.vars.items i.outs.channels c.self.invariant.1 new c.args.now port d in
    let comes = may port d.next in
    let lt = there i.accepted.now i.runs.items i.vars.items i.vars.items i.outs.channels i.outs.channels port (get_or i.runs.items port no_run) c.self.invariant.1 inside in
    let l = i.runs.ok.0 in
    omega arith

pub place-requires : goal.place-requires
place-requires c =
    let i = c.self.inside in
    let may = subst (λ (s : HandlersState). (port : ℕ) → IsNext s.channels c.args.now (Port port) → MayCome s port c.args.now) (sym c.self.view_is) c.requires.may in
    let port = c.in-Port.port in
    let new = c.deliver_one.new.self in
    let d = subst (λ (t : Arrived). Delivers i.outs.channels new c.args.now t) c.in-Port.is c.in_ok-target.ensures.delivered in
    let inside = comes_inside i.accepted.now c.self.invariant.0 i.runs.items i.vars.items i.outs.channels c.self.invariant.1 new c.args.now port d in
    let comes = may port d.next in
    let lt = there i.accepted.now i.runs.items i.vars.items i.vars.items i.outs.channels i.outs.channels port c.index_mut.result.now c.self.invariant.1 inside in
    let read = run_read i.runs.items port c.index_mut.result.now lt c.index_mut.ensures.value in
    subst (λ (r : PortRun). r.number + 1 < 2 ^ 32) (sym read) comes.few

pub invariant_of-self-in-Port : goal.invariant_of-self-in-Port
invariant_of-self-in-Port c =
    let i = c.self.inside in
    let may = subst (λ (s : HandlersState). (port : ℕ) → IsNext s.channels c.args.now (Port port) → MayCome s port c.args.now) (sym c.self.view_is) c.requires.may in
    let port = c.in-Port.port in
    let new = c.deliver_one.new.self in
    let d = subst (λ (t : Arrived). Delivers i.outs.channels new c.args.now t) c.in-Port.is c.in_ok-target.ensures.delivered in
    let inside = comes_inside i.accepted.now c.self.invariant.0 i.runs.items i.vars.items i.outs.channels c.self.invariant.1 new c.args.now port d in
    let comes = may port d.next in
    let run = c.place.new.self in
    let lt = there i.accepted.now i.runs.items i.vars.items i.vars.items i.outs.channels i.outs.channels port c.index_mut.result.now c.self.invariant.1 inside in
    let read = run_read i.runs.items port c.index_mut.result.now lt c.index_mut.ensures.value in
    (c.self.invariant.0, deliver_sound i.accepted.now c.self.invariant.0 i.runs.items i.vars.items i.outs.channels c.self.invariant.1 new port c.args.now run (c.place.ensures ∙ ap (with_message c.args.now) read) comes d)

pub invariant_of-self-in-Output : goal.invariant_of-self-in-Output
invariant_of-self-in-Output c =
    let i = c.self.inside in
    let new = c.deliver_one.new.self in
    let d = subst (λ (t : Arrived). Delivers i.outs.channels new c.args.now t) c.in-Output.is c.in_ok-target.ensures.delivered in
    (c.self.invariant.0, show_sound i.accepted.now c.self.invariant.0 i.runs.items i.vars.items i.outs.channels c.self.invariant.1 new c.in-Output.field-0 c.args.now d)

pub returns-in-Port-clause-comes : goal.returns-in-Port-clause-comes
returns-in-Port-clause-comes c =
    let i = c.self.inside in
    let may = subst (λ (s : HandlersState). (port : ℕ) → IsNext s.channels c.args.now (Port port) → MayCome s port c.args.now) (sym c.self.view_is) c.requires.may in
    let port = c.in-Port.port in
    let new = c.deliver_one.new.self in
    let d = subst (λ (t : Arrived). Delivers i.outs.channels new c.args.now t) c.in-Port.is c.in_ok-target.ensures.delivered in
    let inside = comes_inside i.accepted.now c.self.invariant.0 i.runs.items i.vars.items i.outs.channels c.self.invariant.1 new c.args.now port d in
    let comes = may port d.next in
    let run = c.place.new.self in
    let lt = there i.accepted.now i.runs.items i.vars.items i.vars.items i.outs.channels i.outs.channels port c.index_mut.result.now c.self.invariant.1 inside in
    let read = run_read i.runs.items port c.index_mut.result.now lt c.index_mut.ensures.value in
    subst (λ (s : HandlersState). Comes s c.args.now (Port port) (state i.accepted.now (set i.runs.items port run) i.vars.items new)) c.self.view_is
    (comes_port i.accepted.now i.runs.items i.vars.items i.outs.channels new port c.args.now run lt (c.place.ensures ∙ ap (with_message c.args.now) read) d)
