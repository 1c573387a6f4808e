use Rattle.std.proofs.Common.{◌+◌, ◌<◌, ◌≤◌, length, sym, ◌∙◌, arith}
use Rattle.yt_graph.specs.Picture.{port_tree}
use Rattle.yt_graph.specs.Cost.{greatest_sends}
use Rattle.yt_rates.proofs.Lists.{item_at}
use Rattle.yt_rates.proofs.PassedOn.{sends_is, passed_is, unsent, gapless, too_far, next_out, passed_more, within_more}
use Rattle.yt_rates.proofs.outs.rate_outs.Goals as goal

pub returns-then-sends-eq0-clause-err : goal.returns-then-sends-eq0-clause-err
returns-then-sends-eq0-clause-err c =
    let port = c.args.port.now in
    let p = port_tree port in
    let place = c.loop-place.place in
    let lt : place < length port.outs = omega (arith, c.loop-place-test.true, c.len-place-end.ensures) in
    let at = item_at port.outs place lt in
    let n = sends_is c.args.codes.now c.args.number p (place + 1) c.sends-sends.result c.requires.first c.requires.last c.requires.sends c.sends-sends.ensures (omega arith) (omega (arith, lt)) in
    sym c.loop-place.invariant.so_far ∙ unsent c.args.number p c.args.stream port.outs place at.0 at.1 (omega (arith, n, c.if-sends-eq0.true))

pub returns-then-passed-eq0-clause-err : goal.returns-then-passed-eq0-clause-err
returns-then-passed-eq0-clause-err c =
    let port = c.args.port.now in
    let p = port_tree port in
    let place = c.loop-place.place in
    let n = sends_is c.args.codes.now c.args.number p (place + 1) c.sends-sends.result c.requires.first c.requires.last c.requires.sends c.sends-sends.ensures (omega arith) (omega (arith, c.loop-place-test.true, c.len-place-end.ensures)) in
    let sent : 1 ≤ greatest_sends p (place + 1) = omega (arith, n, c.if-sends-eq0.false) in
    let is = passed_is p c.args.stream c.passed_on-passed.result place c.at.result.now c.sends-sends.result c.at.ensures.get n c.passed_on-passed.ensures.period c.passed_on-passed.ensures.start in
    sym c.loop-place.invariant.so_far ∙ gapless c.args.number p c.args.stream port.outs place c.at.result.now c.passed_on-passed.result c.at.ensures.get sent is c.if-passed-eq0.true

pub returns-then-passed-gt-MOST_REACH-clause-err : goal.returns-then-passed-gt-MOST_REACH-clause-err
returns-then-passed-gt-MOST_REACH-clause-err c =
    let port = c.args.port.now in
    let p = port_tree port in
    let place = c.loop-place.place in
    let n = sends_is c.args.codes.now c.args.number p (place + 1) c.sends-sends.result c.requires.first c.requires.last c.requires.sends c.sends-sends.ensures (omega arith) (omega (arith, c.loop-place-test.true, c.len-place-end.ensures)) in
    let sent : 1 ≤ greatest_sends p (place + 1) = omega (arith, n, c.if-sends-eq0.false) in
    let is = passed_is p c.args.stream c.passed_on-passed.result place c.at.result.now c.sends-sends.result c.at.ensures.get n c.passed_on-passed.ensures.period c.passed_on-passed.ensures.start in
    sym c.loop-place.invariant.so_far ∙ too_far c.args.number p c.args.stream port.outs place c.at.result.now c.passed_on-passed.result c.at.ensures.get sent is (omega (arith, c.if-passed-eq0.false)) c.if-passed-gt-MOST_REACH.true

pub loop-place-preserved : goal.loop-place-preserved
loop-place-preserved c =
    let port = c.args.port.now in
    let p = port_tree port in
    let s = c.args.stream in
    let t = c.passed_on-passed.result in
    let place = c.loop-place.place in
    let i = c.loop-place.invariant in
    let n = sends_is c.args.codes.now c.args.number p (place + 1) c.sends-sends.result c.requires.first c.requires.last c.requires.sends c.sends-sends.ensures (omega arith) (omega (arith, c.loop-place-test.true, c.len-place-end.ensures)) in
    let sent : 1 ≤ greatest_sends p (place + 1) = omega (arith, n, c.if-sends-eq0.false) in
    let is = passed_is p s t place c.at.result.now c.sends-sends.result c.at.ensures.get n c.passed_on-passed.ensures.period c.passed_on-passed.ensures.start in
    let gap : 1 ≤ t.period = omega (arith, c.if-passed-eq0.false) in
    let near : t.start ≤ 4000000 = omega (arith, c.if-passed-gt-MOST_REACH.false) in
    record {
      count = omega (arith, c.push.ensures.len, i.count);
      so_far = next_out c.args.number p s port.outs place c.at.result.now t c.at.ensures.get sent is gap near ∙ i.so_far;
      each = passed_more p s t c.loop-place.outs.items c.push.new.self.items place i.count is c.push.ensures.items i.each;
      limits = within_more p s t place sent is gap near i.limits;
    }
