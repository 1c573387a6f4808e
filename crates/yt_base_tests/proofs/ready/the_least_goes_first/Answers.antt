use Rattle.std.proofs.Common.{ap, arith}
use Rattle.yt_ready.specs.declared.entry.Entry.{Entry}
use Rattle.yt_order.proofs.Lemmas.{fresh_after, none_fresh}
use Rattle.yt_base_tests.proofs.ready.the_least_goes_first.Goals as goal

pub push-requires-2-clause-fresh : goal.push-requires-2-clause-fresh
push-requires-2-clause-fresh g c =
    fresh_after _ _ _ _ c.push.ensures.added (none_fresh _ _ (cc c.in_ok-ready.ensures)) (λ e. let d = ap (λ (x : Entry). x.deadline) e in omega arith)

pub push-requires-3-clause-fresh : goal.push-requires-3-clause-fresh
push-requires-3-clause-fresh g c =
    fresh_after _ _ _ _ c.push-2.ensures.added
    (fresh_after _ _ _ _ c.push.ensures.added (none_fresh _ _ (cc c.in_ok-ready.ensures)) (λ e. let d = ap (λ (x : Entry). x.task) e in omega arith))
    (λ e. let d = ap (λ (x : Entry). x.deadline) e in omega arith)
