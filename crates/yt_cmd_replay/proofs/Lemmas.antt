-- Two causes of one set's replay have one verdict, and there always is a cause.
use Rattle.std.proofs.Common.{◌≡◌, ℕ, List, Some, refl, subst}
use Rattle.yt_fits.specs.declared.unfit.Unfit.{Unfit}
use Rattle.yt_fits.specs.declared.unfit.Unfit.TheVariants.{Hyperperiod, Overload, Interval}
use Rattle.yt_fits.specs.Unfits.{IsReason}
use Rattle.yt_fitting.specs.Loads as loads
use Rattle.yt_fitting.proofs.Lemmas.{no_reason, one_set, some_load, some_set}
use Rattle.yt_set.specs.NamedTasks.{NamedTasks}
use Rattle.yt_witness.specs.declared.pattern.Pattern.{Pattern}
use Rattle.yt_witness.specs.declared.pattern.Pattern.TheVariants.{All, Blocker}
use Rattle.yt_witness.specs.Witnesses.{pattern_of}
use Rattle.yt_witness.proofs.Lemmas.{no_pattern, one_pattern}
use Rattle.yt_cmd_replay.specs.Causes.{PatternCause, ReplayCause, ReplayedCause, fits, pattern_verdict, played, replay_verdict, replayed_verdict, too_long, too_wide, unfit}

one_play : (set : NamedTasks) (pattern : Pattern) (a b : PatternCause set pattern) → pattern_verdict a ≡ pattern_verdict b
one_play set pattern (too_long long) (too_long longer) = refl
one_play set pattern (too_long long) (played short) = absurd (long short)
one_play set pattern (played short) (too_long long) = absurd (long short)
one_play set pattern (played short) (played shorter) = refl

one_shown : (set : NamedTasks) (p q : Pattern) → p ≡ q → (a : PatternCause set p) (b : PatternCause set q) → pattern_verdict a ≡ pattern_verdict b
one_shown set p q same a b = subst (λ (r : Pattern). (c : PatternCause set r) → pattern_verdict a ≡ pattern_verdict c) same (λ c. one_play set p a c) b

one_replayed : (set : NamedTasks) (a b : ReplayedCause set) → replayed_verdict a ≡ replayed_verdict b
one_replayed set (too_wide n is) (too_wide k too) = refl
one_replayed set (too_wide n is) (fits narrow room) = absurd (no_reason set.tasks (Hyperperiod n) is narrow room)
one_replayed set (too_wide n is) (unfit why too pattern given cause) = absurd (no_pattern set.tasks why too pattern given is.1)
one_replayed set (fits narrow room) (too_wide n is) = absurd (no_reason set.tasks (Hyperperiod n) is narrow room)
one_replayed set (fits narrow room) (fits short more) = refl
one_replayed set (fits narrow room) (unfit why is pattern given cause) = absurd (no_reason set.tasks why is narrow room)
one_replayed set (unfit why is pattern given cause) (too_wide n too) = absurd (no_pattern set.tasks why is pattern given too.1)
one_replayed set (unfit why is pattern given cause) (fits narrow room) = absurd (no_reason set.tasks why is narrow room)
one_replayed set (unfit a is p given cause) (unfit b too q same more) = one_shown set p q (one_pattern set.tasks a b is too p q given same) cause more

-- two causes of one text have one verdict
pub one_replay : (set : List ℕ) (a b : ReplayCause set) → replay_verdict a ≡ replay_verdict b
one_replay set a b = one_set set ReplayedCause (λ named why. replayed_verdict why) one_replayed a b

some_shown : (set : NamedTasks) (why : Unfit) → IsReason set.tasks why → (pattern : Pattern) → pattern_of why ≡ Some pattern → (ReplayedCause set → ⊥) → ⊥
some_shown set why is pattern given none =
    none (unfit why is pattern given (too_long (λ short. none (unfit why is pattern given (played short)))))

some_unfit : (set : NamedTasks) (why : Unfit) → IsReason set.tasks why → (ReplayedCause set → ⊥) → ⊥
some_unfit set (Hyperperiod n) is none = none (too_wide n is)
some_unfit set (Overload sum) is none = some_shown set (Overload sum) is (All sum.whole) refl none
some_unfit set (Interval breach) is none = some_shown set (Interval breach) is (Blocker breach.task breach.len) refl none

some_replayed : (set : NamedTasks) → (ReplayedCause set → ⊥) → ⊥
some_replayed set none = some_load set.tasks (Unit {0}) (λ no. no tt) by
  where
    by : loads.LoadCause set.tasks (Unit {0}) → ⊥
    by (loads.unfit why is) = some_unfit set why is none
    by (loads.fits narrow room asked) = none (fits narrow room)

-- there always is one
pub some_replay : (set : List ℕ) → (ReplayCause set → ⊥) → ⊥
some_replay set none = some_set set ReplayedCause some_replayed none
