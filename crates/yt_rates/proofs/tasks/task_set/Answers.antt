use Rattle.std.proofs.Common.{◌≡◌, [], ◌∷◌, length, refl, sym, ap, ◌∙◌, subst, arith, length-append}
use Rattle.std.proofs.lemmas.List.Elements.{All-append}
use Rattle.std.specs.List.{All}
use Rattle.yt_graph.specs.Picture.{graph_tree, port_tree}
use Rattle.yt_graph.specs.Cost.{greatest_cost}
use Rattle.yt_cost.specs.Faults.{IsWithinLimits}
use Rattle.yt_cost.proofs.Lemmas.{limits_kept, port_is}
use Rattle.yt_set.specs.declared.task.Task.{Task}
use Rattle.yt_set.specs.Tasks.{IsTask}
use Rattle.yt_set.proofs.Lemmas.{all_one}
use Rattle.yt_rates.specs.Tables.{task_of}
use Rattle.yt_rates.proofs.Lists.{mapped_more, mapped_all}
use Rattle.yt_rates.proofs.GraphTasks.{at_place, task_is}
use Rattle.yt_rates.proofs.tasks.task_set.Goals as goal

pub loop-place-preserved : goal.loop-place-preserved
loop-place-preserved c =
    let g = graph_tree c.args.graph.now in
    let place = c.loop-place.place in
    let i = c.loop-place.invariant in
    let p = port_tree c.at.result.now in
    let new : Task = record { cost = c.cost-cost.result; period = c.period-period.result; resource = c.at.result.now.group } in
    let there = port_is c.args.graph.now.ports place c.at.result.now c.at.ensures.get in
    let is = task_is g place p there c.args.codes.now c.args.rates.now new c.requires.codes c.requires.rates c.cost-cost.ensures c.period-period.ensures.value refl in
    let costs = at_place IsWithinLimits g.ports place p there (limits_kept g c.args.codes.now c.requires.codes c.len-place-end.ensures.limits) in
    let cost : new.cost ≡ greatest_cost p = ap (λ t. t.cost) is in
    let pushed = c.in_ok-push.ensures.items in
    let in_range : IsTask new = (omega (arith, cost), omega (arith, cost, costs.ticks), c.period-period.ensures.positive, c.period-period.ensures.short) in
    record {
      mapped = mapped_more (task_of g) g.ports place p _ c.loop-place.tasks.items c.push.new.self.items _ there is pushed i.mapped;
      count = omega (arith, ap length pushed, length-append c.loop-place.tasks.items (new ∷ []), i.count);
      in_range = subst (All IsTask) (sym pushed) (All-append IsTask c.loop-place.tasks.items (new ∷ []) i.in_range (all_one IsTask new in_range));
    }

pub of-requires : goal.of-requires
of-requires c =
    (omega (arith, c.loop-place.auto.place-end, c.len-place-end.ensures.len, c.requires.codes.count, c.requires.well_formed.counts.ports, c.loop-place.invariant.count), c.loop-place.invariant.in_range)

pub returns : goal.returns
returns c =
    let g = graph_tree c.args.graph.now in
    let end : c.loop-place.place ≡ length g.ports = omega (arith, c.loop-place-test.false, c.loop-place.auto.place-end, c.len-place-end.ensures.len, c.requires.codes.count) in
    c.of.ensures ∙ mapped_all (task_of g) g.ports c.loop-place.place c.loop-place.tasks.items _ end c.loop-place.invariant.mapped
