use Rattle.std.proofs.Common.{◌≡◌, ◌&&◌, Bool, List, eqb, length, sym, ap, ◌∙◌, arith, eq-eqb, ne_eqb}
use Rattle.std.proofs.lemmas.Bool.{and_left}
use Rattle.std.proofs.lemmas.List.{nil_from_length}
use Rattle.yt_log.specs.declared.job.Segment.{Segment}
use Rattle.yt_log.specs.Plan.{same_job}
use Rattle.yt_log.specs.Segments.{ends_in}
use Rattle.yt_log.proofs.SegmentLists.{ends_in-last, ends_in-nil}
use Rattle.yt_log.proofs.log.ends_in.Goals as goal

pub returns-then-last-end : goal.returns-then-last-end
unfolding same_job
returns-then-last-end c =
    let last = c.in-Some.last.now in
    let met = eq-eqb last.to c.args.end c.if-last-end.true in
    c.eq.ensures ∙
    ap (λ (b : Bool). b && same_job last.job c.args.job) (sym met) ∙
    sym (ends_in-last c.args.segments.now c.args.end c.args.job last c.in-Some.ensures.item.3.0 c.in-Some.ensures.item.1)

pub returns-else-last-end : goal.returns-else-last-end
returns-else-last-end c =
    let last = c.in-Some.last.now in
    let apart = ne_eqb last.to c.args.end c.if-last-end.false in
    apart ∙
    sym (and_left (eqb last.to c.args.end) (same_job last.job c.args.job) apart) ∙
    sym (ends_in-last c.args.segments.now c.args.end c.args.job last c.in-Some.ensures.item.3.0 c.in-Some.ensures.item.1)

pub returns-in-None : goal.returns-in-None
returns-in-None c =
    let none : length c.args.segments.now ≡ 0 = omega (arith, c.in-None.ensures.item.3) in
    sym (ap (λ (ss : List Segment). ends_in ss c.args.end c.args.job) (nil_from_length c.args.segments.now none) ∙ ends_in-nil c.args.end c.args.job)
