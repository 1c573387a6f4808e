use Rattle.std.proofs.Common.{◌≡◌, length, arith}
use Rattle.yt_exec.proofs.Playings.{playing_end, playing_safe}
use Rattle.yt_exec.proofs.plays.play.Goals as goal

pub returns-clause-rule : goal.returns-clause-rule
returns-clause-rule c =
    let s = c.loop-playing.playing in
    let i = c.loop-playing.invariant in
    let long : length s.log ≡ c.args.upto = let few = i.few in let t = c.loop-playing-test.false in let u = c.until.ensures in omega arith in
    playing_end c.args.set.now c.args.plan.now c.requires.legal s.executive s.counts.rows.items s.next s.log i.playing c.args.upto long

pub returns-clause-safe : goal.returns-clause-safe
returns-clause-safe c =
    let s = c.loop-playing.playing in
    let i = c.loop-playing.invariant in
    let long : length s.log ≡ c.args.upto = let few = i.few in let t = c.loop-playing-test.false in let u = c.until.ensures in omega arith in
    playing_safe c.args.set.now c.args.plan.now c.args.upto s.log c.requires.legal (playing_end c.args.set.now c.args.plan.now c.requires.legal s.executive s.counts.rows.items s.next s.log i.playing c.args.upto long)
