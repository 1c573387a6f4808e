use Rattle.std.proofs.Common.{◌≤◌, length, arith}
use Rattle.yt_set.specs.declared.task.Task.{Task}
use Rattle.yt_set.specs.Tasks.{within}
use Rattle.yt_fits.proofs.IntervalLemmas.{all_next, all_taken, all_wider}
use Rattle.yt_fits.proofs.interval.longest.Goals.{then-task-ne0, else-task-ne0}
use Rattle.yt_fits.proofs.interval.longest.Goals as goal

pub loop-n-preserved : goal.loop-n-preserved
loop-n-preserved c =
    let set = c.args.set.now in
    let n = c.loop-n.n in
    let task = c.task-task.result in
    let was = c.loop-n.invariant.bound in
    let slow = c.task-task.ensures.in_range.3 in
    let IsWithin : Task → Type 0 = λ t. 1 ≤ t.resource → within t ≤ c.if-task-ne0.longest in
    let grows : c.loop-n.longest ≤ c.if-task-ne0.longest = elim c.if-task-ne0.branch [
      | then-task-ne0 w ↦ let is = w.longest-is in let e = w.max-longest.ensures in omega arith
      | else-task-ne0 w ↦ let is = w.longest-is in omega arith
    ] in
    let here : IsWithin task = λ held. elim c.if-task-ne0.branch [
      | then-task-ne0 w ↦ let is = w.longest-is in let e = w.max-longest.ensures in let f = w.within.ensures in omega arith
      | else-task-ne0 w ↦ let none = w.if-task-ne0.false in omega arith
    ] in
    let bound : c.if-task-ne0.longest ≤ 1000000 = elim c.if-task-ne0.branch [
      | then-task-ne0 w ↦ let is = w.longest-is in let e = w.max-longest.ensures in let f = w.within.ensures in omega arith
      | else-task-ne0 w ↦ let is = w.longest-is in omega arith
    ] in
    record {
      longest = all_next IsWithin set n task c.task-task.ensures.value
          (all_wider (λ (t : Task). 1 ≤ t.resource → within t ≤ c.loop-n.longest) IsWithin _ (λ t fits held. let le = fits held in omega arith) c.loop-n.invariant.longest)
          here;
      bound = bound;
    }

pub returns-clause-longest : goal.returns-clause-longest
returns-clause-longest c =
    let out : length c.args.set.now ≤ c.loop-n.n = omega (arith, c.len-n-end.ensures.len, c.loop-n-test.false) in
    all_taken (λ (t : Task). 1 ≤ t.resource → within t ≤ c.loop-n.longest) c.args.set.now c.loop-n.n out c.loop-n.invariant.longest
