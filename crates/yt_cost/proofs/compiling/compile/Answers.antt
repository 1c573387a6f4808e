use Rattle.std.proofs.Common.{◌≡◌, ◌+◌, Some, ap, sym, ◌∙◌, subst, arith, length, drop}
use Rattle.std.proofs.lemmas.List.{length-map}
use Rattle.std.specs.Prelude.{map, slice_get}
use Rattle.yt_graph.specs.Picture.{port_tree, graph_tree}
use Rattle.yt_cost.specs.Codes.{IsCodeOf}
use Rattle.yt_cost.specs.Faults.{ports_fault}
use Rattle.yt_cost.proofs.CodeOwn.{owns}
use Rattle.yt_cost.specs.CodeVars.{UsesOwnVars}
use Rattle.yt_cost.proofs.CodesWithin.{codes_within}
use Rattle.yt_cost.proofs.Compiled.{by_numbers, port_is, fine_port, port_fits, drop_at, next_fault, each_more, length-push, none_left, all_within}
use Rattle.yt_cost.proofs.compiling.compile.Goals as goal

pub compile_one-requires-clause-fit : goal.compile_one-requires-clause-fit
compile_one-requires-clause-fit c =
    let graph = c.args.graph.now in
    let place = c.loop-place.place in
    let there = port_is graph.ports place c.at.result.now c.at.ensures.get in
    port_fits (graph_tree graph) place (port_tree c.at.result.now) c.requires.well_formed c.requires.no_calls there

pub compile_one-requires-clause-few_outs : goal.compile_one-requires-clause-few_outs
compile_one-requires-clause-few_outs c =
    let graph = c.args.graph.now in
    let place = c.loop-place.place in
    let there = port_is graph.ports place c.at.result.now c.at.ensures.get in
    (fine_port (graph_tree graph) place (port_tree c.at.result.now) c.requires.well_formed there).6

pub loop-place-preserved : goal.loop-place-preserved
loop-place-preserved c =
    let graph = c.args.graph.now in
    let place = c.loop-place.place in
    let port = c.at.result.now in
    let kept = c.in_ok-kept.kept in
    let ports = c.loop-place.ports in
    let i = c.loop-place.invariant in
    let all = map port_tree graph.ports in
    let there = port_is graph.ports place port c.at.ensures.get in
    let pushed = c.in_ok-push.ensures.ok in
    let at = subst (λ n. slice_get all n ≡ Some (port_tree port)) (sym i.count) there in
    let rest = ap (λ ps. ports_fault (place + 1) (map port_tree ps)) (drop_at graph.ports place port c.at.ensures.get) in
    record {
      count = ap length pushed ∙ length-push ports kept ∙ ap (λ n. n + 1) i.count;
      so_far = sym (next_fault (place + 1) (port_tree port) (map port_tree (drop (place + 1) graph.ports)) c.in_ok-kept.ensures.no_fault) ∙ (sym rest ∙ i.so_far);
      each = rw pushed (each_more (IsCodeOf (graph_tree graph)) all ports (port_tree port) kept i.each at c.in_ok-kept.ensures.kept);
    }

pub returns-clause-codes : goal.returns-clause-codes
returns-clause-codes c =
    let graph = c.args.graph.now in
    let i = c.loop-place.invariant in
    rw c.new.ensures (record {
      count = omega (arith, i.count, c.len-place-end.ensures, length-map graph.ports port_tree);
      each = by_numbers (IsCodeOf (graph_tree graph)) (map port_tree graph.ports) c.loop-place.ports i.each;
      own = by_numbers (λ p kept. UsesOwnVars (graph_tree graph) kept.code p) (map port_tree graph.ports) c.loop-place.ports
          (λ k p there kept at. owns (graph_tree graph) p kept.code (fine_port (graph_tree graph) k p c.requires.well_formed there) (i.each k p there kept at).own_vars);
    })

pub returns-clause-limits : goal.returns-clause-limits
returns-clause-limits c =
    let ports = c.args.graph.now.ports in
    let i = c.loop-place.invariant in
    let end : c.loop-place.place ≡ length ports = omega (arith, c.len-place-end.ensures) in
    all_within 1 (map port_tree ports) (sym i.so_far ∙ none_left (c.loop-place.place + 1) ports c.loop-place.place end)

pub new-requires : goal.new-requires
new-requires c =
    let graph = c.args.graph.now in
    let ports = graph.ports in
    let i = c.loop-place.invariant in
    let end : c.loop-place.place ≡ length ports = omega (arith, c.len-place-end.ensures) in
    let within = all_within 1 (map port_tree ports) (sym i.so_far ∙ none_left (c.loop-place.place + 1) ports c.loop-place.place end) in
    codes_within (graph_tree graph) c.loop-place.ports (omega (arith, i.count, end, length-map ports port_tree)) i.each within
