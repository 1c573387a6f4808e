use Rattle.std.proofs.Common.{◌+◌, ◌<◌, length, refl, sym, subst, arith}
use Rattle.std.proofs.lemmas.List.{length-map}
use Rattle.std.proofs.lemmas.Result.{err_from_is_err_and}
use Rattle.yt_graph.specs.Picture.{graph_tree, port_tree}
use Rattle.yt_rates.specs.Faults.{rate_fault}
use Rattle.yt_rates.specs.Tables.{AreRatesOf}
use Rattle.yt_rates.proofs.Rated.{none_rated, one_farther, found, all_kept, all_rated, all_within, decides}
use Rattle.yt_rates.proofs.rating.rates.Goals as goal

pub loop-distance-init : goal.loop-distance-init
loop-distance-init c =
    let g = graph_tree c.args.graph.now in
    record {
      left = length g.ports + 1;
      all = omega arith;
      so_far = refl;
      rated = none_rated g c.in_ok-table.table.items (omega (arith, c.in_ok-table.ensures, c.len.ensures, length-map c.args.graph.now.ports port_tree));
    }

pub returns-in_err-rate_at-clause-err : goal.returns-in_err-rate_at-clause-err
returns-in_err-rate_at-clause-err c =
    let g = graph_tree c.args.graph.now in
    let i = c.loop-distance.invariant in
    let fault = c.in_err-rate_at.field-0.0 in
    let lt : c.loop-distance.distance < length g.ports + 1 = omega (arith, c.loop-distance-test.true, c.len-distance-end.ensures, length-map c.args.graph.now.ports port_tree) in
    let exit = err_from_is_err_and c.from_residual-in_err-rate_at.result c.from_residual-in_err-rate_at.ensures.1 in
    rw (exit.1, exit.2) (decides (rate_fault g) fault (found g c.loop-distance.distance i.left (length g.ports + 1) (rate_fault g) fault i.all lt c.in_err-rate_at.ensures.err i.so_far))

pub loop-distance-preserved : goal.loop-distance-preserved
loop-distance-preserved c =
    let g = graph_tree c.args.graph.now in
    let i = c.loop-distance.invariant in
    let lt : c.loop-distance.distance < length g.ports + 1 = omega (arith, c.loop-distance-test.true, c.len-distance-end.ensures, length-map c.args.graph.now.ports port_tree) in
    let next = one_farther g c.loop-distance.distance i.left (length g.ports + 1) (rate_fault g) i.all lt c.in_ok-rate_at.ensures.no_fault i.so_far in
    record { left = next.0; all = next.1; so_far = next.2; rated = c.in_ok-rate_at.ensures.rated }

pub returns-clause-rates : goal.returns-clause-rates
returns-clause-rates c =
    let g = graph_tree c.args.graph.now in
    let far : length g.ports < c.loop-distance.distance = omega (arith, c.loop-distance-test.false, c.len-distance-end.ensures, length-map c.args.graph.now.ports port_tree) in
    subst (AreRatesOf g) (sym c.new.ensures) (all_rated g c.loop-distance.distance c.loop-distance.table.items c.requires.well_formed far c.loop-distance.invariant.rated)

pub returns-clause-limits : goal.returns-clause-limits
returns-clause-limits c =
    let g = graph_tree c.args.graph.now in
    let far : length g.ports < c.loop-distance.distance = omega (arith, c.loop-distance-test.false, c.len-distance-end.ensures, length-map c.args.graph.now.ports port_tree) in
    all_within g c.loop-distance.distance c.loop-distance.table.items c.requires.well_formed far c.loop-distance.invariant.rated

pub new-requires : goal.new-requires
new-requires c =
    let g = graph_tree c.args.graph.now in
    let far : length g.ports < c.loop-distance.distance = omega (arith, c.loop-distance-test.false, c.len-distance-end.ensures, length-map c.args.graph.now.ports port_tree) in
    all_kept g c.loop-distance.distance c.loop-distance.table.items c.requires.well_formed far c.loop-distance.invariant.rated
