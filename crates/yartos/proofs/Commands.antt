-- One verdict is due to a command and its files, and it can't be that none is.
use Rattle.std.proofs.Common.{◌≡◌, ℕ, zero, suc, List, [], ◌∷◌, Option, Some, sym, subst, ⊎_elim, inl, inr}
use Rattle.yt_answer.specs.declared.verdict.Verdict.{Verdict}
use Rattle.yt_answer.specs.declared.verdict.Verdict.TheVariants.{Long}
use Rattle.yt_answer.specs.Due.{IsDue}
use Rattle.yt_cmd_check.specs.Check.{CheckCause, IsCheckText, check_verdict}
use Rattle.yt_cmd_check.specs.Tasks.{IsTasksText, TasksCause, tasks_verdict}
use Rattle.yt_cmd_check.proofs.Lemmas.{one_check, one_tasks, some_check, some_tasks}
use Rattle.yt_cmd_form.specs.Form.{FormCause, IsFormText, form_verdict}
use Rattle.yt_cmd_form.proofs.Lemmas.{one_form, some_form}
use Rattle.yt_cmd_play.specs.Causes.{IsPlayText, PlayCause, play_verdict}
use Rattle.yt_cmd_play.proofs.Lemmas.{one_play, some_play}
use Rattle.yt_cmd_replay.specs.Causes.{IsReplayText, ReplayCause, replay_verdict}
use Rattle.yt_cmd_replay.proofs.Lemmas.{one_replay, some_replay}
use Rattle.yt_cmd_run.specs.Causes.{IsRunText, IsStopText, RunCause, run_verdict}
use Rattle.yt_cmd_run.proofs.Lemmas.{one_run, some_run}
use Rattle.yt_cmd_set.specs.Judged.{IsJudgedText, JudgedSetCause, judged_verdict}
use Rattle.yt_cmd_set.proofs.Lemmas.{one_judged, some_judged}
use Rattle.yartos.specs.declared.words.Command as declared
use Rattle.yartos.specs.Answer.{IsDueTo}
use Rattle.yartos.specs.Causes.{CommandCause, command_verdict}
use Rattle.yartos.specs.FileCauses.{FileCause, IsFileText, file_verdict, long_line, read, too_long}
use Rattle.yartos.specs.Reads.{CannotRead, IsRead}
use Rattle.yartos.specs.Words.{Command, check, files_of, form, judges, play, replay, run, set, stop, tasks}
use Rattle.yartos.specs.Inside.Found.{command_found}
use Rattle.yartos.specs.Inside.LongFiles.{IsFirstLong}
use Rattle.yartos.proofs.FileLemmas.{file_due, file_held, long_due, not_over, one_file, read_held, some_file}

-- what is due to the bytes of two files that were read is due to the files
pub files_due : (told : Option (List ℕ → Option (List ℕ))) (name other x y : List ℕ) (Asked : List ℕ → List ℕ → Type 0) (of : (x y : List ℕ) → Asked x y → Verdict)
    (IsText : (x y : List ℕ) → Asked x y → List ℕ → Type 0) (verdict : Verdict) (text : List ℕ) → IsRead told name x → IsRead told other y → IsDue (of x y) (IsText x y) verdict text →
    IsDue (file_verdict {told = told} {name = name} (λ a. file_verdict {told = told} {name = other} (of a))) (IsFileText 1 {told = told} {name = name} (λ a. IsFileText 2 {told = told} {name = other} (IsText a))) verdict text
files_due told name other x y Asked of IsText verdict text is too due =
    file_due told name x 1 (λ a. FileCause told other (Asked a)) (λ a. file_verdict (of a)) (λ a. IsFileText 2 (IsText a)) verdict text is
    (file_due told other y 2 (Asked x) (of x) (IsText x) verdict text too due)

-- what is due to a command is due to the one that was given, which is this one
pub by_command : (told : Option (List ℕ → Option (List ℕ))) (given known : declared.Command) (verdict : Verdict) (text : List ℕ) → given ≡ known →
    IsDueTo told (judges (command_found known)) verdict text → IsDueTo told (judges (command_found given)) verdict text
by_command told given known verdict text is due = subst (λ c. IsDueTo told (judges (command_found c)) verdict text) (sym is) due

-- the line of the first file that is too long is due

one_long : (told : Option (List ℕ → Option (List ℕ))) (name : List ℕ) (Asked : List ℕ → Type 0) (of : (bytes : List ℕ) → Asked bytes → Verdict)
    (IsText : (bytes : List ℕ) → Asked bytes → List ℕ → Type 0) (number : ℕ) → IsFirstLong told (name ∷ []) number →
    IsDue (file_verdict {told = told} {name = name} of) (IsFileText 1 {told = told} {name = name} IsText) Long (long_line number)
one_long told name Asked of IsText zero is = absurd is
one_long told name Asked of IsText (suc zero) is = long_due told name 1 Asked of IsText is
one_long told name Asked of IsText (suc (suc number)) is = absurd is.1

two_long : (told : Option (List ℕ → Option (List ℕ))) (name other : List ℕ) (Asked : List ℕ → List ℕ → Type 0) (of : (x y : List ℕ) → Asked x y → Verdict)
    (IsText : (x y : List ℕ) → Asked x y → List ℕ → Type 0) (number : ℕ) → IsFirstLong told (name ∷ other ∷ []) number →
    IsDue (file_verdict {told = told} {name = name} (λ a. file_verdict {told = told} {name = other} (of a))) (IsFileText 1 {told = told} {name = name} (λ a. IsFileText 2 {told = told} {name = other} (IsText a))) Long (long_line number)
two_long told name other Asked of IsText zero is = absurd is
two_long told name other Asked of IsText (suc zero) is = long_due told name 1 (λ a. FileCause told other (Asked a)) (λ a. file_verdict (of a)) (λ a. IsFileText 2 (IsText a)) is
two_long told name other Asked of IsText (suc (suc zero)) is =
    file_due told name is.0.0 1 (λ a. FileCause told other (Asked a)) (λ a. file_verdict (of a)) (λ a. IsFileText 2 (IsText a)) Long (long_line 2) is.0.1
    (long_due told other 2 (Asked is.0.0) (of is.0.0) (IsText is.0.0) is.1)
two_long told name other Asked of IsText (suc (suc (suc number))) is = absurd is.1.1

pub first_long : (told : Option (List ℕ → Option (List ℕ))) (command : Command) (number : ℕ) → IsFirstLong told (files_of command) number → IsDueTo told (judges command) Long (long_line number)
first_long told (form graph) number is = one_long told graph (λ g. FormCause g) (λ g why. form_verdict why) (λ g why. IsFormText why) number is
first_long told (tasks graph) number is = one_long told graph (λ g. TasksCause g) (λ g why. tasks_verdict why) (λ g why. IsTasksText why) number is
first_long told (check graph) number is = one_long told graph (λ g. CheckCause g) (λ g why. check_verdict why) (λ g why. IsCheckText why) number is
first_long told (run graph trace) number is = two_long told graph trace (λ g t. RunCause g t) (λ g t why. run_verdict why) (λ g t why. IsRunText why) number is
first_long told (stop graph trace tick) number is = two_long told graph trace (λ g t. RunCause g t) (λ g t why. run_verdict why) (λ g t why. IsStopText tick why) number is
first_long told (set named) number is = one_long told named (λ s. JudgedSetCause s) (λ s why. judged_verdict why) (λ s why. IsJudgedText why) number is
first_long told (replay named) number is = one_long told named (λ s. ReplayCause s) (λ s why. replay_verdict why) (λ s why. IsReplayText why) number is
first_long told (play named plan) number is = two_long told named plan (λ s p. PlayCause s p) (λ s p why. play_verdict why) (λ s p why. IsPlayText why) number is

-- one verdict

two_files : (held : List ℕ → Option (List ℕ)) (name other : List ℕ) (Asked : List ℕ → List ℕ → Type 0) (of : (x y : List ℕ) → Asked x y → Verdict) →
    ((x y : List ℕ) (a b : Asked x y) → of x y a ≡ of x y b) → (a b : FileCause (Some held) name (λ x. FileCause (Some held) other (Asked x))) →
    file_verdict (λ x. file_verdict (of x)) a ≡ file_verdict (λ x. file_verdict (of x)) b
two_files held name other Asked of one a b =
    one_file held name (λ x. FileCause (Some held) other (Asked x)) (λ x. file_verdict (of x)) (λ x. one_file held other (Asked x) (of x) (one x)) a b

pub one_command : (held : List ℕ → Option (List ℕ)) (command : Command) (a b : CommandCause (Some held) command) → command_verdict (Some held) command a ≡ command_verdict (Some held) command b
one_command held (form graph) a b = one_file held graph (λ g. FormCause g) (λ g why. form_verdict why) one_form a b
one_command held (tasks graph) a b = one_file held graph (λ g. TasksCause g) (λ g why. tasks_verdict why) one_tasks a b
one_command held (check graph) a b = one_file held graph (λ g. CheckCause g) (λ g why. check_verdict why) one_check a b
one_command held (run graph trace) a b = two_files held graph trace (λ g t. RunCause g t) (λ g t why. run_verdict why) one_run a b
one_command held (stop graph trace tick) a b = two_files held graph trace (λ g t. RunCause g t) (λ g t why. run_verdict why) (λ g t. one_run g t) a b
one_command held (set named) a b = one_file held named (λ s. JudgedSetCause s) (λ s why. judged_verdict why) one_judged a b
one_command held (replay named) a b = one_file held named (λ s. ReplayCause s) (λ s why. replay_verdict why) one_replay a b
one_command held (play named plan) a b = two_files held named plan (λ s p. PlayCause s p) (λ s p why. play_verdict why) one_play a b

-- where a verdict is due, no file that is reached is missing

one_held : (held : List ℕ → Option (List ℕ)) (name : List ℕ) (Asked : List ℕ → Type 0) → FileCause (Some held) name Asked → CannotRead (Some held) (name ∷ []) → ⊥
one_held held name Asked cause cannot = ⊎_elim (λ m. file_held held name Asked cause m) (λ m. m.1) cannot

two_held : (held : List ℕ → Option (List ℕ)) (name other : List ℕ) (Asked : List ℕ → List ℕ → Type 0) → FileCause (Some held) name (λ x. FileCause (Some held) other (Asked x)) →
    CannotRead (Some held) (name ∷ other ∷ []) → ⊥
two_held held name other Asked (too_long is) cannot =
    ⊎_elim (λ m. file_held held name (λ x. FileCause (Some held) other (Asked x)) (too_long is) m) (λ m. not_over held name m.0.0 m.0.1 is) cannot
two_held held name other Asked (read bytes is cause) cannot = ⊎_elim (λ m. read_held held name bytes is m) (λ m. one_held held other (Asked bytes) cause m.1) cannot

pub command_held : (held : List ℕ → Option (List ℕ)) (command : Command) → CommandCause (Some held) command → CannotRead (Some held) (files_of command) → ⊥
command_held held (form graph) cause cannot = one_held held graph (λ g. FormCause g) cause cannot
command_held held (tasks graph) cause cannot = one_held held graph (λ g. TasksCause g) cause cannot
command_held held (check graph) cause cannot = one_held held graph (λ g. CheckCause g) cause cannot
command_held held (run graph trace) cause cannot = two_held held graph trace (λ g t. RunCause g t) cause cannot
command_held held (stop graph trace tick) cause cannot = two_held held graph trace (λ g t. RunCause g t) cause cannot
command_held held (set named) cause cannot = one_held held named (λ s. JudgedSetCause s) cause cannot
command_held held (replay named) cause cannot = one_held held named (λ s. ReplayCause s) cause cannot
command_held held (play named plan) cause cannot = two_held held named plan (λ s p. PlayCause s p) cause cannot

-- some verdict

some_one : (held : List ℕ → Option (List ℕ)) (name : List ℕ) (Asked : List ℕ → Type 0) → ((bytes : List ℕ) → (Asked bytes → ⊥) → ⊥) → (CannotRead (Some held) (name ∷ []) → ⊥) →
    (FileCause (Some held) name Asked → ⊥) → ⊥
some_one held name Asked some there none = some_file held name Asked (λ m. there (inl m)) (λ bytes is. some bytes) none

some_two : (held : List ℕ → Option (List ℕ)) (name other : List ℕ) (Asked : List ℕ → List ℕ → Type 0) → ((x y : List ℕ) → (Asked x y → ⊥) → ⊥) → (CannotRead (Some held) (name ∷ other ∷ []) → ⊥) →
    (FileCause (Some held) name (λ x. FileCause (Some held) other (Asked x)) → ⊥) → ⊥
some_two held name other Asked some there none =
    some_file held name (λ x. FileCause (Some held) other (Asked x)) (λ m. there (inl m))
    (λ bytes is. some_one held other (Asked bytes) (some bytes) (λ m. there (inr ((bytes, is), m)))) none

pub some_command : (held : List ℕ → Option (List ℕ)) (command : Command) → (CannotRead (Some held) (files_of command) → ⊥) → (CommandCause (Some held) command → ⊥) → ⊥
some_command held (form graph) there none = some_one held graph (λ g. FormCause g) some_form there none
some_command held (tasks graph) there none = some_one held graph (λ g. TasksCause g) some_tasks there none
some_command held (check graph) there none = some_one held graph (λ g. CheckCause g) some_check there none
some_command held (run graph trace) there none = some_two held graph trace (λ g t. RunCause g t) some_run there none
some_command held (stop graph trace tick) there none = some_two held graph trace (λ g t. RunCause g t) (λ g t. some_run g t) there none
some_command held (set named) there none = some_one held named (λ s. JudgedSetCause s) some_judged there none
some_command held (replay named) there none = some_one held named (λ s. ReplayCause s) some_replay there none
some_command held (play named plan) there none = some_two held named plan (λ s p. PlayCause s p) some_play there none
