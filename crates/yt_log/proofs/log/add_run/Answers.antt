use Rattle.std.proofs.Common.{◌≡◌, ℕ, ◌-◌, true, false, List, length, get_or, set, sym, ap, ◌∙◌, arith}
use Rattle.yt_log.specs.declared.job.Segment.{Segment}
use Rattle.yt_log.specs.Segments.{ends_in}
use Rattle.yt_log.proofs.SegmentLists.{some_from_ends_in, with_run-longer, with_run-apart}
use Rattle.yt_log.proofs.log.add_run.Goals as goal

pub overflow_sub-last : goal.overflow_sub-last
overflow_sub-last c = omega (arith, some_from_ends_in c.deref.result.now c.args.from c.args.job (sym c.if-ends_in.ensures), c.deref.ensures.len)

pub index_mut-requires : goal.index_mut-requires
index_mut-requires c = omega (arith, some_from_ends_in c.deref.result.now c.args.from c.args.job (sym c.if-ends_in.ensures), c.deref.ensures.len)

pub returns-then-ends_in-clause-ok : goal.returns-then-ends_in-clause-ok
returns-then-ends_in-clause-ok c =
    let segments = c.args.segments.now.items in
    let last = c.index_mut.result.now in
    let here : ends_in segments c.args.from c.args.job ≡ true = ap (λ (ss : List Segment). ends_in ss c.args.from c.args.job) (sym c.deref.ensures.value) ∙ sym c.if-ends_in.ensures in
    let long : length segments ≡ c.len-last.result = ap length (sym c.deref.ensures.value) ∙ c.deref.ensures.len ∙ sym c.len-last.ensures in
    let place : c.len-last.result - 1 ≡ length segments - 1 = ap (λ (n : ℕ). n - 1) (sym long) in
    let at : last ≡ get_or segments (length segments - 1) last = c.index_mut.ensures.value ∙ ap (λ (n : ℕ). get_or segments n last) place in
    ap (λ (n : ℕ). set segments n (record last { to = c.args.to })) place ∙ sym (with_run-longer segments c.args.from c.args.to c.args.job last here at)

pub returns-in_ok-push-clause-ok : goal.returns-in_ok-push-clause-ok
returns-in_ok-push-clause-ok c =
    let apart : ends_in c.args.segments.now.items c.args.from c.args.job ≡ false =
    ap (λ (ss : List Segment). ends_in ss c.args.from c.args.job) (sym c.deref.ensures.value) ∙ sym c.if-ends_in.ensures in
    c.in_ok-push.ensures.items ∙ sym (with_run-apart c.args.segments.now.items c.args.from c.args.to c.args.job apart)
