-- Why a verdict on the replay of a set comes, by the set's text, and its text.
use Rattle.std.specs.Prelude.{◌≡◌, ℕ, ◌≤◌, List, [], Some, codes}
use Rattle.yt_answer.specs.declared.verdict.Verdict.{Verdict}
use Rattle.yt_answer.specs.declared.verdict.Verdict.TheVariants.{Done, Graph, Long, Missed}
use Rattle.yt_fits.specs.declared.unfit.Unfit.{Unfit}
use Rattle.yt_fits.specs.declared.unfit.Unfit.TheVariants.{Hyperperiod}
use Rattle.yt_fits.specs.Loads.{hyperperiod_limit}
use Rattle.yt_fits.specs.Unfits.{IsReason}
use Rattle.yt_fitting.specs.Sets.{IsSetText, SetCause, set_verdict}
use Rattle.yt_fitting.specs.TaskText.{accepted_text, hyperperiod_line}
use Rattle.yt_list.specs.Numbered.{numbered_or}
use Rattle.yt_log.specs.Patterns.{MustMiss}
use Rattle.yt_playing.specs.Plays.{ShowsMiss}
use Rattle.yt_set.specs.NamedTasks.{NamedTasks}
use Rattle.yt_set.specs.Tasks.{Fits, hyperperiod}
use Rattle.yt_witness.specs.declared.pattern.Pattern.{Pattern}
use Rattle.yt_witness.specs.Witnesses.{IsShort, horizon, job_count, pattern_of, plan_of}
use Rattle.yt_cmd_replay.specs.Texts.{long_line}

-- why one on a pattern of a set comes: it is too long to be played, or it is played
pub data PatternCause (set : NamedTasks) (pattern : Pattern) : Type 0 where
  too_long : (IsShort set.tasks pattern → ⊥) → PatternCause set pattern
  played : IsShort set.tasks pattern → PatternCause set pattern

-- the verdict
abbrev pub pattern_verdict : {set : NamedTasks} {pattern : Pattern} → PatternCause set pattern → Verdict
pattern_verdict (too_long long) = Long
pattern_verdict (played short) = Missed

-- the text shows the play of a pattern's plan up to a miss; and every lawful, work-conserving and exclusive schedule of it misses a deadline by the horizon
pub record ShowsReplay (set : NamedTasks) (pattern : Pattern) (text : List ℕ) : Type 0 where
  pub miss : ShowsMiss set (plan_of set.tasks pattern) text
  pub must_miss : MustMiss set.tasks (plan_of set.tasks pattern) (horizon pattern)

-- its text
abbrev pub IsPatternText : {set : NamedTasks} {pattern : Pattern} → PatternCause set pattern → List ℕ → Type 0
IsPatternText {set} {pattern} (too_long long) text = text ≡ long_line (horizon pattern) (job_count set.tasks pattern)
IsPatternText {set} {pattern} (played short) text = ShowsReplay set pattern text

-- why one on a set that is read comes: its hyperperiod is too great; its tasks fit; or they don't, which this pattern shows
pub data ReplayedCause (set : NamedTasks) : Type 0 where
  too_wide : (task : ℕ) → IsReason set.tasks (Hyperperiod task) → ReplayedCause set
  fits : hyperperiod set.tasks ≤ hyperperiod_limit set.tasks → Fits set.tasks → ReplayedCause set
  unfit : (why : Unfit) → IsReason set.tasks why → (pattern : Pattern) → pattern_of why ≡ Some pattern → PatternCause set pattern → ReplayedCause set

-- the verdict
abbrev pub replayed_verdict : {set : NamedTasks} → ReplayedCause set → Verdict
replayed_verdict (too_wide task is) = Graph
replayed_verdict (fits narrow room) = Done
replayed_verdict (unfit why is pattern given cause) = pattern_verdict cause

-- its text
abbrev pub IsReplayedText : {set : NamedTasks} → ReplayedCause set → List ℕ → Type 0
IsReplayedText {set} (too_wide task is) text = text ≡ hyperperiod_line (codes "set") (numbered_or set.labels task [])
IsReplayedText {set} (fits narrow room) text = text ≡ accepted_text set.tasks
IsReplayedText (unfit why is pattern given cause) text = IsPatternText cause text

-- why one on the text of a set comes: it has a line at fault, or the set is replayed
abbrev pub ReplayCause : List ℕ → Type 0
ReplayCause set = SetCause set ReplayedCause

-- the verdict
abbrev pub replay_verdict : {set : List ℕ} → ReplayCause set → Verdict
replay_verdict cause = set_verdict (λ named why. replayed_verdict why) cause

-- its text
abbrev pub IsReplayText : {set : List ℕ} → ReplayCause set → List ℕ → Type 0
IsReplayText cause text = IsSetText (λ named why told. IsReplayedText why told) cause text
