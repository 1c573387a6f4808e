use Rattle.std.proofs.Common.{◌∙◌, arith}
use Rattle.yt_log.specs.Plan.{same_job}
use Rattle.yt_log.specs.Inside.Heads.{head_at, item_at}
use Rattle.yt_log.proofs.Following.{not_same, same_from, runs_on, idles_on, none_breaks, idle_breaks, leaves}
use Rattle.yt_log.proofs.judge.broken.follow.Goals as goal

pub broken_rule-requires-clause-leaves : goal.broken_rule-requires-clause-leaves
unfolding head_at item_at same_job
broken_rule-requires-clause-leaves c =
    leaves _ c.requires.in_range _ c.requires.legal.legal _ _ _ c.requires.follows _ c.items-items.ensures c.least_head-least.result c.in-Some-Some.n c.in-Some-Some.is-0 c.least_head-least.ensures c.in-Some-Some.job
    (c.requires.stretch.goes c.args.tick (omega arith) c.requires.stretch.after ∙ c.in-Some-Some.is-1) (not_same c.in-Some-Some.job _ c.if-ne.ensures)

pub returns-in-None-None-clause-follows : goal.returns-in-None-None-clause-follows
returns-in-None-None-clause-follows c =
    let most = c.next_arrival-to.ensures.most in
    let end = c.requires.stretch.within in
    idles_on _ c.requires.in_range _ c.requires.legal.legal _ _ _ c.requires.follows _ c.items-items.ensures c.least_head-least.result c.in-None-None.is-0 c.least_head-least.ensures _ c.next_arrival-to.ensures.after (omega arith) c.next_arrival-to.ensures.quiet
    (λ u from below. c.requires.stretch.goes u from (omega arith) ∙ c.in-None-None.is-1)

pub returns-in-None-Some-clause-broken : goal.returns-in-None-Some-clause-broken
returns-in-None-Some-clause-broken c =
    none_breaks _ c.requires.in_range _ c.requires.legal.legal _ _ _ c.requires.follows _ c.items-items.ensures c.least_head-least.result c.in-None-Some.is-0 c.least_head-least.ensures c.in-None-Some.field-0-1
    (c.requires.stretch.goes c.args.tick (omega arith) c.requires.stretch.after ∙ c.in-None-Some.is-1)

pub returns-in-Some-None-clause-broken : goal.returns-in-Some-None-clause-broken
returns-in-Some-None-clause-broken c =
    idle_breaks _ c.requires.in_range _ c.requires.legal.legal _ _ _ c.requires.follows _ c.items-items.ensures c.least_head-least.result c.in-Some-None.field-0-0 c.in-Some-None.is-0 c.least_head-least.ensures (omega (arith, c.requires.stretch.after, c.requires.stretch.within))
    (c.requires.stretch.goes c.args.tick (omega arith) c.requires.stretch.after ∙ c.in-Some-None.is-1)

pub returns-else-ne-clause-follows : goal.returns-else-ne-clause-follows
unfolding head_at item_at same_job
returns-else-ne-clause-follows c =
    let most = c.next_arrival-to.ensures.most in
    let end = c.requires.stretch.within in
    runs_on _ c.requires.in_range _ c.requires.legal.legal _ _ _ c.requires.follows _ c.items-items.ensures c.least_head-least.result c.in-Some-Some.n c.in-Some-Some.is-0 c.least_head-least.ensures _ c.next_arrival-to.ensures.after (omega arith) c.next_arrival-to.ensures.quiet
    c.in-Some-Some.job (λ u from below. c.requires.stretch.goes u from (omega arith) ∙ c.in-Some-Some.is-1) (same_from c.in-Some-Some.job _ c.if-ne.ensures) c.min-ticks.result c.min-ticks.ensures c.moved.result c.moved.ensures.on c.moved.ensures.next
