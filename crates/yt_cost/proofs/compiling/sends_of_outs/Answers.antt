use Rattle.std.proofs.Common.{◌≡◌, ◌+◌, ◌<◌, ◌≤◌, ap, sym, ◌∙◌, arith}
use Rattle.std.specs.Option.{option_map}
use Rattle.yt_graph.specs.Picture.{block_tree, port_tree}
use Rattle.yt_graph.specs.Cost.{block_sends, greatest_sends}
use Rattle.yt_cost.specs.declared.fault.CostFault.TheVariants.{Sends}
use Rattle.yt_cost.proofs.Compiled.{not_crowded, crowded, outs_more}
use Rattle.yt_cost.proofs.compiling.sends_of_outs.Goals as goal

pub returns-then-most-gt-MOST_SENDS-clause-err : goal.returns-then-most-gt-MOST_SENDS-clause-err
returns-then-most-gt-MOST_SENDS-clause-err c =
    let port = c.args.port.now in
    let place = c.loop-place.place in
    let more : 64 < greatest_sends (port_tree port) (place + 1) = omega (arith, c.sends_in_all-most.ensures, ap (λ b. block_sends (place + 1) (block_tree b)) c.deref.ensures.value) in
    ap (option_map (Sends c.args.number)) (sym c.loop-place.invariant.so_far ∙ crowded (port_tree port) port.outs place (omega (arith, c.len-place-end.ensures)) more)

pub loop-place-preserved : goal.loop-place-preserved
loop-place-preserved c =
    let port = c.args.port.now in
    let place = c.loop-place.place in
    let i = c.loop-place.invariant in
    let most = c.sends_in_all-most.result in
    let same = ap (λ b. block_sends (place + 1) (block_tree b)) c.deref.ensures.value in
    let few : greatest_sends (port_tree port) (place + 1) ≤ 64 = omega (arith, c.sends_in_all-most.ensures, same) in
    let exact : most ≡ greatest_sends (port_tree port) (place + 1) = omega (arith, c.sends_in_all-most.ensures, same, few) in
    record {
      count = omega (arith, c.push.ensures.len);
      so_far = not_crowded (port_tree port) port.outs place (omega (arith, c.len-place-end.ensures)) few ∙ i.so_far;
      each = rw c.push.ensures.items (outs_more (greatest_sends (port_tree port)) c.loop-place.sends.items most place i.count exact i.each);
    }
