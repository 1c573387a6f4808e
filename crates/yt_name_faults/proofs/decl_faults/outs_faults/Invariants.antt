use Rattle.std.proofs.Common.{◌≡◌, drop}
use Rattle.yt_name_faults.specs.First.{least_with}
use Rattle.yt_name_faults.specs.Faults.{outs_faults}
use Rattle.yt_name_faults.proofs.decl_faults.outs_faults.Given as goal

abbrev pub invariant-loop-n : goal.invariant-loop-n
invariant-loop-n l = least_with (outs_faults l.outs l.n l.left (drop l.n l.out-items)) l.least ≡ least_with (outs_faults l.outs 0 8 l.outs) l.fn.least
