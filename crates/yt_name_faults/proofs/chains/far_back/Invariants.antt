use Rattle.std.proofs.Common.{◌≡◌, map, length}
use Rattle.yt_name_faults.specs.Paths.{steps_back}
use Rattle.yt_name_faults.proofs.chains.far_back.Given as goal

-- as many steps as are left, by jumps, lead where all steps lead
abbrev pub invariant-loop-left : goal.invariant-loop-left
invariant-loop-left l = map (steps_back l.jump.items l.left) l.at.items ≡ map (steps_back l.before (length l.before)) l.before

abbrev pub decreases-loop-left : goal.decreases-loop-left
decreases-loop-left l = l.left
