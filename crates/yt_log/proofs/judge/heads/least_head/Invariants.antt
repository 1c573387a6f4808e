use Rattle.yt_log.specs.Inside.Heads.{Leads, head_at}
use Rattle.yt_log.proofs.judge.heads.least_head.Given as goal

abbrev pub invariant-loop-n : goal.invariant-loop-n
invariant-loop-n l = Leads l.items l.tick l.n (head_at l.heads) l.least
