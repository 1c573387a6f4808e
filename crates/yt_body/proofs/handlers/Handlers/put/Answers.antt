use Rattle.std.proofs.Common.{◌≡◌, ap, sym, ◌∙◌, subst, length}
use Rattle.yt_interleave.specs.Interleaved.{port_at}
use Rattle.yt_body.specs.Sound.{IsPortOf, MayCome}
use Rattle.yt_body.specs.State.{HandlersState, graph_of}
use Rattle.yt_body.specs.Steps.{with_message}
use Rattle.yt_body.proofs.Comings.{put_sound}
use Rattle.yt_body.proofs.Frames.{run_read, there}
use Rattle.yt_body.proofs.handlers.Handlers.put.Goals as goal

pub invariant_of-self : goal.invariant_of-self
invariant_of-self c =
    let i = c.self.inside in
    let may = subst (λ (s : HandlersState). MayCome s c.args.port c.args.now) (sym c.self.view_is) c.requires.may in
    let inside = subst (λ (s : HandlersState). IsPortOf (graph_of s) c.args.port) (sym c.self.view_is) c.requires.there in
    let wide = subst (λ (s : HandlersState). length c.args.values.now ≡ (port_at (graph_of s) c.args.port).params) (sym c.self.view_is) c.requires.wide in
    let e = c.put.ensures in
    let lt = there i.accepted.now i.runs.items i.vars.items i.vars.items i.outs.channels i.outs.channels c.args.port c.place.new.self c.self.invariant.1 inside in
    let read = run_read i.runs.items c.args.port c.index_mut.result.now lt c.index_mut.ensures.value in (
      c.self.invariant.0,
      put_sound i.accepted.now c.self.invariant.0 i.runs.items i.vars.items i.outs.channels c.self.invariant.1 c.put.new.self c.args.port c.args.now c.args.values.now c.place.new.self
          (c.place.ensures ∙ ap (with_message c.args.now) read) inside wide may e.wires e.places e.handles e.waits e.opens,
    )
