use Rattle.std.proofs.Common.{◌≡◌, arith}
use Rattle.std.proofs.lemmas.Grind.{common_steps}
use Rattle.std.specs.List.{insert}
use Rattle.yt_order.proofs.Lemmas.{push_falls, push_has}
use Rattle.yt_ready.proofs.Orders.{entries_are_ordered}
use Rattle.yt_ready.proofs.ready.Ready.push.Goals as goal

pub invariant_of-self : goal.invariant_of-self
invariant_of-self c =
    let fresh = rw (← c.self.view_is) at c.requires.fresh in
    let e : c.insert.new.self.items ≡ insert c.self.inside.entries.items c.place_of-place.result c.args.entry = grind (arith, common_steps) in
    let p = c.place_of-place.ensures in
    push_falls entries_are_ordered c.self.inside.entries.items c.deref.result.now c.insert.new.self.items c.place_of-place.result c.args.entry c.deref.ensures.value e c.self.invariant fresh p.bound p.before p.after

pub returns-clause-added : goal.returns-clause-added
returns-clause-added c =
    let fresh = rw (← c.self.view_is) at c.requires.fresh in
    let e : c.insert.new.self.items ≡ insert c.self.inside.entries.items c.place_of-place.result c.args.entry = grind (arith, common_steps) in
    rw (← c.self.view_is) (push_has c.self.inside.entries.items c.deref.result.now c.insert.new.self.items c.place_of-place.result c.args.entry c.deref.ensures.value e fresh c.place_of-place.ensures.bound)
