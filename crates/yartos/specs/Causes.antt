-- Why a verdict comes to words and to the files that they name, and which text tells it.
use Rattle.std.specs.Prelude.{◌≡◌, ℕ, List, Option, codes}
use Rattle.yt_answer.specs.declared.verdict.Verdict.{Verdict}
use Rattle.yt_answer.specs.declared.verdict.Verdict.TheVariants.{NotYet, Usage}
use Rattle.yt_answer.specs.Due.{not_yet_line}
use Rattle.yt_cmd_check.specs.Check.{CheckCause, IsCheckText, check_verdict}
use Rattle.yt_cmd_check.specs.Tasks.{IsTasksText, TasksCause, tasks_verdict}
use Rattle.yt_cmd_form.specs.Form.{FormCause, IsFormText, form_verdict}
use Rattle.yt_cmd_play.specs.Causes.{IsPlayText, PlayCause, play_verdict}
use Rattle.yt_cmd_replay.specs.Causes.{IsReplayText, ReplayCause, replay_verdict}
use Rattle.yt_cmd_run.specs.Causes.{IsRunText, IsStopText, RunCause, run_verdict}
use Rattle.yt_cmd_set.specs.Judged.{IsJudgedText, JudgedSetCause, judged_verdict}
use Rattle.yartos.specs.FileCauses.{FileCause, IsFileText, file_verdict}
use Rattle.yartos.specs.Words.{Command, Request, check, demo, form, judges, misuse, play, replay, run, set, stop, tasks}

-- why a verdict comes to a command, by what its files hold, which are read in order
abbrev pub CommandCause : Option (List ℕ → Option (List ℕ)) → Command → Type 0
CommandCause told (form graph) = FileCause told graph (λ g. FormCause g)
CommandCause told (tasks graph) = FileCause told graph (λ g. TasksCause g)
CommandCause told (check graph) = FileCause told graph (λ g. CheckCause g)
CommandCause told (run graph trace) = FileCause told graph (λ g. FileCause told trace (λ t. RunCause g t))
CommandCause told (stop graph trace tick) = FileCause told graph (λ g. FileCause told trace (λ t. RunCause g t))
CommandCause told (set named) = FileCause told named (λ s. JudgedSetCause s)
CommandCause told (replay named) = FileCause told named (λ s. ReplayCause s)
CommandCause told (play named plan) = FileCause told named (λ s. FileCause told plan (λ p. PlayCause s p))

-- the verdict
abbrev pub command_verdict : (told : Option (List ℕ → Option (List ℕ))) (command : Command) → CommandCause told command → Verdict
command_verdict told (form graph) cause = file_verdict (λ g why. form_verdict why) cause
command_verdict told (tasks graph) cause = file_verdict (λ g why. tasks_verdict why) cause
command_verdict told (check graph) cause = file_verdict (λ g why. check_verdict why) cause
command_verdict told (run graph trace) cause = file_verdict (λ g. file_verdict (λ t why. run_verdict why)) cause
command_verdict told (stop graph trace tick) cause = file_verdict (λ g. file_verdict (λ t why. run_verdict why)) cause
command_verdict told (set named) cause = file_verdict (λ s why. judged_verdict why) cause
command_verdict told (replay named) cause = file_verdict (λ s why. replay_verdict why) cause
command_verdict told (play named plan) cause = file_verdict (λ s. file_verdict (λ p why. play_verdict why)) cause

-- its text
abbrev pub IsCommandText : (told : Option (List ℕ → Option (List ℕ))) (command : Command) → CommandCause told command → List ℕ → Type 0
IsCommandText told (form graph) cause text = IsFileText 1 (λ g why. IsFormText why) cause text
IsCommandText told (tasks graph) cause text = IsFileText 1 (λ g why. IsTasksText why) cause text
IsCommandText told (check graph) cause text = IsFileText 1 (λ g why. IsCheckText why) cause text
IsCommandText told (run graph trace) cause text = IsFileText 1 (λ g. IsFileText 2 (λ t why. IsRunText why)) cause text
IsCommandText told (stop graph trace tick) cause text = IsFileText 1 (λ g. IsFileText 2 (λ t why. IsStopText tick why)) cause text
IsCommandText told (set named) cause text = IsFileText 1 (λ s why. IsJudgedText why) cause text
IsCommandText told (replay named) cause text = IsFileText 1 (λ s why. IsReplayText why) cause text
IsCommandText told (play named plan) cause text = IsFileText 1 (λ s. IsFileText 2 (λ p why. IsPlayText why)) cause text

-- why a verdict comes to what words ask for; words of no listed form, and of a form that isn't built yet, are a cause by themselves
abbrev pub RequestCause : Option (List ℕ → Option (List ℕ)) → Request → Type 0
RequestCause told misuse = Unit {0}
RequestCause told (demo number) = Unit {0}
RequestCause told (judges command) = CommandCause told command

-- the verdict
abbrev pub request_verdict : (told : Option (List ℕ → Option (List ℕ))) (request : Request) → RequestCause told request → Verdict
request_verdict told misuse cause = Usage
request_verdict told (demo number) cause = NotYet
request_verdict told (judges command) cause = command_verdict told command cause

-- the line that tells the listed forms
abbrev pub usage_line : List ℕ
usage_line = codes "usage: yartos form G, tasks G, check G, run G T, stop G T N, set S, play S P, replay S, demo N\n"

-- its text
abbrev pub IsRequestText : (told : Option (List ℕ → Option (List ℕ))) (request : Request) → RequestCause told request → List ℕ → Type 0
IsRequestText told misuse cause text = text ≡ usage_line
IsRequestText told (demo number) cause text = text ≡ not_yet_line
IsRequestText told (judges command) cause text = IsCommandText told command cause text
