use Rattle.std.proofs.Common.{◌≡◌, ◌≤◌, subst}
use Rattle.yt_chan.specs.declared.wire.Wire.{Wire}
use Rattle.yt_chan.specs.Wires.{wire_of_out}
use Rattle.yt_chan.proofs.Table.{filled_none, filled_more, filled_all}
use Rattle.yt_chan.proofs.NextTimes.{wire_is}
use Rattle.yt_chan.proofs.wire.table_of.Goals as goal

pub loop-place-init : goal.loop-place-init
loop-place-init c = filled_none c.args.wires.now c.args.ports c.in_ok-table.table.items (c.in_ok-table.ensures.items_if_clones_equal (λ y h. h))

pub loop-place-preserved : goal.loop-place-preserved
loop-place-preserved c =
    let wires = c.args.wires.now in
    let n = c.loop-place.place in
    let wire = c.index-wires-place.result in
    let w = wire_is wires n wire c.loop-place-test.true c.index-wires-place.is in
    let t = c.requires.there n c.loop-place-test.true in
    let o = c.requires.own n c.loop-place-test.true in
    filled_more wires c.args.ports n c.loop-place.table.items wire c.loop-place-test.true w
    (subst (λ (x : Wire). x.port ≤ c.args.ports) w t.0) (subst (λ (x : Wire). x.out ≤ 8) w t.1) (subst (λ (x : Wire). wire_of_out wires x.port x.out ≡ n) w o) c.loop-place.invariant

pub returns : goal.returns
returns c = (c.loop-place.invariant.long, filled_all c.args.wires.now c.args.ports c.loop-place.place c.loop-place.table.items c.loop-place-test.false c.loop-place.invariant)
