use Rattle.std.proofs.Common.{◌≡◌}
use Rattle.yt_log.specs.Patterns.{jobs_arriving}
use Rattle.yt_witness.specs.Witnesses.{as_arrivals}
use Rattle.yt_witness.proofs.plan.jobs_of.Given as goal

-- the jobs so far
abbrev pub invariant-loop-n : goal.invariant-loop-n
invariant-loop-n l = l.jobs.items ≡ jobs_arriving l.task (as_arrivals l.arrivals) l.n
