use Rattle.std.proofs.Common.{◌≡◌, ◌+◌, [], ◌++◌, map, drop, ap, sym, ◌∙◌, arith}
use Rattle.std.proofs.lemmas.Grind.{common_steps}
use Rattle.yt_graph.specs.AstPicture.{item_tree}
use Rattle.yt_name_faults.specs.Parts.{placed_of, trees}
use Rattle.yt_name_faults.specs.Faults.{item_faults, items_faults}
use Rattle.yt_name_faults.proofs.FirstLemmas.{next, at_end}
use Rattle.yt_name_faults.proofs.TreeLemmas.{cut}
use Rattle.yt_name_faults.proofs.item_faults.items_faults.Goals as goal

pub loop-n-preserved : goal.loop-n-preserved
loop-n-preserved c =
    let all = trees c.args.rules.now.index.now in
    let ops = c.args.rules.now.ops.now in
    let n = c.loop-n.n in
    let room = c.loop-n.room in
    let p = c.index-parts-n.result in
    let rest = map placed_of (drop (n + 1) c.args.parts.now) in
    let here = item_faults all ops n p.first room (item_tree p.item.now) in
    next here (items_faults all ops (n + 1) c.after-room.result rest) _ _ _ _
    (ap (λ l. items_faults all ops n room (map placed_of l)) (cut c.args.parts.now n p c.loop-n-test.true c.index-parts-n.is)
    ∙ ap (λ r. here ++ items_faults all ops (n + 1) r rest) (sym c.after-room.ensures))
    c.in_ok-item_faults.ensures
    c.loop-n.invariant

pub returns : goal.returns
returns c =
    let none : drop c.loop-n.n c.args.parts.now ≡ [] = grind (arith, common_steps) in
    at_end _ _ _ (ap (λ l. items_faults (trees c.args.rules.now.index.now) c.args.rules.now.ops.now c.loop-n.n c.loop-n.room (map placed_of l)) none) c.loop-n.invariant
