-- Each pattern of a set has a plan that must miss.
use Rattle.std.proofs.Common.{◌≡◌, ℕ, ◌<◌, ◌≤◌, List, ⊎_elim, sym, ap, subst, arith}
use Rattle.std.proofs.lemmas.Bool.{cases_lt}
use Rattle.yt_set.specs.declared.task.Task.{Task}
use Rattle.yt_set.specs.Tasks.{IsTaskSet, hyperperiod, load}
use Rattle.yt_fits.specs.declared.sums.LoadSum.{LoadSum}
use Rattle.yt_fits.specs.declared.unfit.Unfit.TheVariants.{Interval, Overload}
use Rattle.yt_fits.specs.declared.interval.Breach.{Breach}
use Rattle.yt_fits.specs.Unfits.{IsReason}
use Rattle.yt_log.specs.Patterns.{MustMiss, pattern_plan, all_tasks}
use Rattle.yt_log.proofs.Lemmas.{blockers, overloads}
use Rattle.yt_witness.specs.declared.pattern.Pattern.{Pattern}
use Rattle.yt_witness.specs.declared.pattern.Pattern.TheVariants.{All, Blocker}
use Rattle.yt_witness.specs.Witnesses.{IsPatternOf, horizon, plan_of}

pub pattern_misses : (tasks : List Task) → IsTaskSet tasks → (pattern : Pattern) → IsPatternOf tasks pattern → MustMiss tasks (plan_of tasks pattern) (horizon pattern)
pattern_misses tasks set (All upto) is =
    let h = hyperperiod tasks in
    subst (λ (t : ℕ). MustMiss tasks (pattern_plan (all_tasks tasks t)) t) (sym is.0)
    (⊎_elim
    (λ (over : h < load tasks h). overloads.load tasks set over)
    (λ (fits : load tasks h ≤ h). absurd (is.2 fits))
    (cases_lt h (load tasks h)))
pattern_misses tasks set (Blocker task upto) is =
    blockers tasks set task is.task is.there upto is.lacks

-- an overload's pattern is one of the set's
pub load_pattern_is : (tasks : List Task) (sum : LoadSum) → IsReason tasks (Overload sum) → IsPatternOf tasks (All sum.whole)
load_pattern_is tasks sum reason =
    let whole : sum.whole ≡ hyperperiod tasks = ap (λ (s : LoadSum). s.whole) reason.0 in
    let narrow = reason.1 in
    (whole, omega arith, reason.2)

-- a breach's pattern is one of the set's
pub room_pattern_is : (tasks : List Task) (breach : Breach) → IsReason tasks (Interval breach) → IsPatternOf tasks (Blocker breach.task breach.len)
room_pattern_is tasks breach reason =
    let lowest = reason.0.lowest in
    record { task = lowest.task; there = lowest.there; lacks = lowest.lacks }
