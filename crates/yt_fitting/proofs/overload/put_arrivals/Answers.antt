use Rattle.std.proofs.Common.{◌≤◌, length, sym, ◌∙◌, arith}
use Rattle.yt_witness.specs.Witnesses.{arrivals_of, as_arrivals}
use Rattle.yt_witness.proofs.Lemmas.{length_arrivals}
use Rattle.yt_fitting.proofs.TaskLines.{arrive_last, arrive_more, placed}
use Rattle.yt_fitting.proofs.overload.put_arrivals.Goals as goal

pub loop-n-preserved : goal.loop-n-preserved
loop-n-preserved c =
    let all = arrivals_of c.args.set.now c.args.pattern.now in
    let at = placed all c.loop-n.n (as_arrivals c.arrive.result) c.arrive.ensures.arrivals in
    arrive_more c.args.labels.now c.loop-n.n all (as_arrivals c.arrive.result) c.task_label.result.now c.loop-n.text c.put_arrival.new.text at c.task_label.ensures c.in_ok-put_arrival.ensures ∙ c.loop-n.invariant

pub returns : goal.returns
returns c =
    let all = arrivals_of c.args.set.now c.args.pattern.now in
    let count = length_arrivals c.args.set.now c.args.pattern.now in
    let out : length all ≤ c.loop-n.n = omega (arith, count, c.len-n-end.ensures.len, c.loop-n-test.false) in
    sym (arrive_last c.args.labels.now c.loop-n.n all c.loop-n.text out) ∙ c.loop-n.invariant
