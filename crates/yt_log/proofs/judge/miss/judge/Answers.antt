use Rattle.std.proofs.Common.{arith}
use Rattle.yt_log.proofs.Judged.{left_ordered, passes_none, passes_some, judged_left, judged_late}
use Rattle.yt_log.proofs.judge.miss.judge.Goals as goal

pub miss_of-requires : goal.miss_of-requires
miss_of-requires c = left_ordered _ _ c.requires.ordered

pub returns-clause-judged : goal.returns-clause-judged
returns-clause-judged c =
    let due = c.in_ok-due.ensures in
    judged_left c.args.set.now c.args.segments.now _ c.args.upto c.in_ok-due.due c.args.item.now c.requires.within c.requires.unnamed due.0 due.1 c.miss_of.result c.miss_of.ensures.none c.miss_of.ensures.some

pub returns-clause-passes : goal.returns-clause-passes
returns-clause-passes c =
    passes_some c.args.segments.now c.args.item.now c.args.seen.now c.passed.result (omega (arith, c.requires.all, c.requires.in_set, c.requires.from_one)) c.requires.within c.passed.ensures.within c.passed.ensures.no_later

pub returns-in_err-due-clause-judged : goal.returns-in_err-due-clause-judged
returns-in_err-due-clause-judged c = judged_late c.args.set.now c.args.segments.now c.args.upto c.args.item.now c.from_residual.result c.from_residual.ensures c.in_err-due.ensures

pub returns-in_err-due-clause-passes : goal.returns-in_err-due-clause-passes
returns-in_err-due-clause-passes c = passes_none c.args.segments.now c.args.item.now c.args.seen.now c.requires.within
