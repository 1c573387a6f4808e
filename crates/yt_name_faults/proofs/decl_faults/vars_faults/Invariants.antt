use Rattle.std.proofs.Common.{◌≡◌, drop}
use Rattle.yt_name_faults.specs.First.{least_with}
use Rattle.yt_name_faults.specs.Faults.{vars_faults}
use Rattle.yt_name_faults.proofs.decl_faults.vars_faults.Given as goal

abbrev pub invariant-loop-n : goal.invariant-loop-n
invariant-loop-n l = least_with (vars_faults l.vars l.n l.left (drop l.n l.var-items)) l.least ≡ least_with (vars_faults l.vars 0 l.fn.left l.vars) l.fn.least
