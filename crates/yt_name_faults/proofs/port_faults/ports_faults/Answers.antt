use Rattle.std.proofs.Common.{◌≡◌, ◌+◌, [], ◌++◌, map, drop, ap, sym, ◌∙◌, arith}
use Rattle.std.proofs.lemmas.Grind.{common_steps}
use Rattle.yt_graph.specs.AstPicture.{item_tree}
use Rattle.yt_name_faults.specs.First.{least_with}
use Rattle.yt_name_faults.specs.Parts.{port_of, trees}
use Rattle.yt_name_faults.specs.Paths.{ports_of}
use Rattle.yt_name_faults.specs.Faults.{port_faults, ports_faults}
use Rattle.yt_name_faults.proofs.FirstLemmas.{next, at_end}
use Rattle.yt_name_faults.proofs.PartLemmas.{trees_are}
use Rattle.yt_name_faults.proofs.TreeLemmas.{cut}
use Rattle.yt_name_faults.proofs.port_faults.ports_faults.Goals as goal

pub loop-n-init : goal.loop-n-init
loop-n-init c =
    let all = trees c.args.rules.now.index.now in
    let ops = c.args.rules.now.ops.now in
    let part = c.args.part.now in
    let ports = ports_of (item_tree part.item.now) in
    let from : part.first + 0 ≡ part.first = omega arith in
    let own = ap (map port_of) c.deref-port-items.ensures.value ∙ trees_are part.ports.items part.item.now part.ports_are in
    ap (λ k. least_with (ports_faults all ops part.vars ports part.first k c.args.left (map port_of c.deref-port-items.result.now)) c.args.least.now) from
    ∙ ap (λ l. least_with (ports_faults all ops part.vars ports part.first part.first c.args.left l) c.args.least.now) own

pub loop-n-preserved : goal.loop-n-preserved
loop-n-preserved c =
    let all = trees c.args.rules.now.index.now in
    let ops = c.args.rules.now.ops.now in
    let part = c.args.part.now in
    let ports = ports_of (item_tree part.item.now) in
    let n = c.loop-n.n in
    let left = c.loop-n.left in
    let p = c.port-item.result in
    let items = c.deref-port-items.result.now in
    let rest = map port_of (drop (n + 1) items) in
    let here = port_faults all ops part.vars ports part.first (part.first + n) left (port_of p) in
    let number : part.first + n + 1 ≡ part.first + (n + 1) = omega arith in
    next here (ports_faults all ops part.vars ports part.first (part.first + (n + 1)) c.saturating_sub-left.result rest) _ _ _ _
    (ap (λ l. ports_faults all ops part.vars ports part.first (part.first + n) left (map port_of l)) (cut items n p c.loop-n-test.true c.port-item.is)
    ∙ ap (λ k. here ++ ports_faults all ops part.vars ports part.first (part.first + n + 1) k rest) (sym c.saturating_sub-left.ensures)
    ∙ ap (λ k. here ++ ports_faults all ops part.vars ports part.first k c.saturating_sub-left.result rest) number)
    c.in_ok-port_faults.ensures
    c.loop-n.invariant

pub returns : goal.returns
returns c =
    let part = c.args.part.now in
    let none : drop c.loop-n.n c.deref-port-items.result.now ≡ [] = grind (arith, common_steps) in
    at_end _ _ _
    (ap (λ l. ports_faults (trees c.args.rules.now.index.now) c.args.rules.now.ops.now part.vars (ports_of (item_tree part.item.now)) part.first (part.first + c.loop-n.n) c.loop-n.left (map port_of l)) none)
    c.loop-n.invariant
