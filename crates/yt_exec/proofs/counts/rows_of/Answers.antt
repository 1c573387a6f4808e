use Rattle.std.proofs.Common.{ℕ, ◌+◌, [], ◌∷◌, replicate, ap, ◌∙◌, arith}
use Rattle.yt_exec.specs.Inside.Counting.{no_count}
use Rattle.yt_exec.proofs.Countings.{counted_start, its_row, one_counted}
use Rattle.yt_exec.proofs.counts.rows_of.Goals as goal

pub loop-item-init : goal.loop-item-init
loop-item-init c = counted_start c.args.set.now c.in_ok-rows.rows.items (c.in_ok-rows.ensures ∙ ap (λ (n : ℕ). replicate (n + 1) (no_count ∷ [])) c.len.ensures.len)

pub index_mut-requires : goal.index_mut-requires
index_mut-requires c =
    let r = its_row c.args.set.now c.args.plan.now c.items-item-items.result.now c.loop-item.item-index (record { job = record { task = 0; number = 0 }; arrival = 0; cost = 0 }) c.loop-item.rows.items c.requires.legal c.items-item-items.ensures c.loop-item-test.true c.loop-item.invariant in
    let o = c.loop-item.rows.ok.0 in
    omega arith

pub loop-item-preserved : goal.loop-item-preserved
loop-item-preserved c =
    one_counted c.args.set.now c.args.plan.now c.items-item-items.result.now c.loop-item.item-index (record { job = record { task = 0; number = 0 }; arrival = 0; cost = 0 }) c.loop-item.rows.items c.requires.legal c.items-item-items.ensures c.loop-item-test.true c.loop-item.invariant
    c.index_mut.result.now c.push.new.self c.index_mut.ensures.value c.in_ok-push.ensures
