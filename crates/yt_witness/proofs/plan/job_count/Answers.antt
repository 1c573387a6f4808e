use Rattle.std.proofs.Common.{◌≤◌, length, sym, ◌∙◌, arith}
use Rattle.yt_list.proofs.Lemmas.{numbered_next}
use Rattle.yt_witness.specs.Witnesses.{arrivals_of, as_arrivals}
use Rattle.yt_witness.proofs.Places.{length_arrivals}
use Rattle.yt_witness.proofs.Plans.{count_all, count_more}
use Rattle.yt_witness.proofs.plan.job_count.Goals as goal

pub loop-n-preserved : goal.loop-n-preserved
loop-n-preserved c =
    let all = arrivals_of c.args.set.now c.args.pattern.now in
    let a = as_arrivals c.arrive-jobs.result in
    let most = c.arrive-jobs.ensures.in_range.count in
    record {
      jobs = count_more all c.loop-n.n a c.loop-n.jobs (sym (numbered_next all c.loop-n.n) ∙ c.arrive-jobs.ensures.arrivals) c.loop-n.invariant.jobs;
      few = omega arith;
    }

pub returns : goal.returns
returns c =
    let all = arrivals_of c.args.set.now c.args.pattern.now in
    let count = length_arrivals c.args.set.now c.args.pattern.now in
    let end : length all ≤ c.loop-n.n = omega (arith, c.len-n-end.ensures.len, c.loop-n-test.false) in
    count_all all c.loop-n.n c.loop-n.jobs end c.loop-n.invariant.jobs
