use Rattle.std.proofs.Common.{◌≡◌, ◌+◌, ◌<◌, length, sym, ◌∙◌, subst, arith}
use Rattle.std.proofs.lemmas.List.{length-map}
use Rattle.std.proofs.lemmas.Result.{err_from_is_err_and}
use Rattle.yt_graph.specs.Picture.{graph_tree, port_tree}
use Rattle.yt_rates.specs.Rates.{distance_of}
use Rattle.yt_rates.specs.Inside.Rating.{AreRated}
use Rattle.yt_rates.proofs.Lists.{item_at}
use Rattle.yt_rates.proofs.Rated.{distance_is, lower, at_other, at_fine, at_fault, step_other, step_one, next_distance}
use Rattle.yt_rates.proofs.rating.rate_at.Goals as goal
use Rattle.yt_rates.proofs.rating.rate_at.Goals.{then-distances-place+in_ok-kept, else-distances-place}

pub rate_port-requires-clause-rated : goal.rate_port-requires-clause-rated
rate_port-requires-clause-rated c x is =
    let g = graph_tree c.args.graph.now in
    let place = c.loop-place.place in
    let here : c.args.distance ≡ distance_of g x = sym c.if-distances-place.true ∙ distance_is g c.args.distances.now place 0 x c.requires.distances is in
    let rated = lower g c.args.distance place c.loop-place.table.items c.loop-place.invariant.rated in
    subst (λ l. AreRated g (distance_of g x) 0 l) (sym c.deref.ensures.value) (subst (λ d. AreRated g d 0 c.loop-place.table.items) here rated)

pub returns-in_err-kept-clause-err : goal.returns-in_err-kept-clause-err
returns-in_err-kept-clause-err c =
    let g = graph_tree c.args.graph.now in
    let place = c.loop-place.place in
    let lt : place < length g.ports = omega (arith, c.loop-place-test.true, c.len-place-end.ensures, length-map c.args.graph.now.ports port_tree) in
    let at = item_at g.ports place lt in
    let here : distance_of g at.0 ≡ c.args.distance = sym (distance_is g c.args.distances.now place 0 at.0 c.requires.distances at.1) ∙ c.if-distances-place.true in
    let fault = c.in_err-kept.field-0.0 in
    let exit = err_from_is_err_and c.from_residual.result c.from_residual.ensures.1 in
    rw (exit.1, exit.2) (sym c.loop-place.invariant.so_far ∙ at_fault g c.args.distance g.ports place at.0 fault at.1 here (c.in_err-kept.ensures.err at.0 at.1))

pub loop-place-preserved : goal.loop-place-preserved
loop-place-preserved c =
    let g = graph_tree c.args.graph.now in
    let distance = c.args.distance in
    let place = c.loop-place.place in
    let i = c.loop-place.invariant in
    let lt : place < length g.ports = omega (arith, c.loop-place-test.true, c.len-place-end.ensures, length-map c.args.graph.now.ports port_tree) in
    let at = item_at g.ports place lt in
    let p = at.0 in
    let kept_distance = distance_is g c.args.distances.now place 0 p c.requires.distances at.1 in
    elim c.if-distances-place.branch [
      | then-distances-place+in_ok-kept w ↦
          let here : distance_of g p ≡ distance = sym kept_distance ∙ w.if-distances-place.true in
          let rated = step_one g distance place p c.loop-place.table.items w.in_ok-kept.kept i.rated at.1 here (w.in_ok-kept.ensures.rated p at.1) in
          record {
            rated = subst (λ v. AreRated g distance (place + 1) v.items) (sym w.table-is) rated;
            so_far = at_fine g distance g.ports place p at.1 here (w.in_ok-kept.ensures.no_fault p at.1) ∙ i.so_far;
          }
      | else-distances-place w ↦
          let apart = λ (e : distance_of g p ≡ distance). w.if-distances-place.false (kept_distance ∙ e) in
          record {
            rated = subst (λ v. AreRated g distance (place + 1) v.items) (sym w.table-is) (step_other g distance place p c.loop-place.table.items i.rated at.1 apart);
            so_far = at_other g distance g.ports place p at.1 apart ∙ i.so_far;
          }
    ]

pub returns-clause-rated : goal.returns-clause-rated
returns-clause-rated c =
    let g = graph_tree c.args.graph.now in
    let end : c.loop-place.place ≡ length g.ports = omega (arith, c.loop-place-test.false, c.loop-place.auto.place-end, c.len-place-end.ensures, length-map c.args.graph.now.ports port_tree) in
    next_distance g c.args.distance c.loop-place.place c.loop-place.table.items end c.loop-place.invariant.rated
