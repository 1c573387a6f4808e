-- Two causes of one set's text have one verdict, and there always is a cause.
use Rattle.std.proofs.Common.{◌≡◌, ℕ, List, refl}
use Rattle.yt_answer.specs.declared.verdict.Verdict.TheVariants.{Done}
use Rattle.yt_set.specs.NamedTasks.{NamedTasks}
use Rattle.yt_fitting.proofs.Lemmas.{one_load, one_set, some_load, some_set}
use Rattle.yt_cmd_set.specs.Judged.{FitCause, JudgedSetCause, fit_verdict, judged_verdict}

one_fit : (named : NamedTasks) (a b : FitCause named) → fit_verdict named a ≡ fit_verdict named b
one_fit named a b = one_load named.tasks (Unit {0}) (λ _. Done) (λ _ _. refl) a b

-- two causes have one verdict
pub one_judged : (set : List ℕ) (a b : JudgedSetCause set) → judged_verdict a ≡ judged_verdict b
one_judged set a b = one_set set FitCause fit_verdict one_fit a b

some_fit : (named : NamedTasks) → (FitCause named → ⊥) → ⊥
some_fit named none = some_load named.tasks (Unit {0}) (λ no. no tt) none

-- there always is one
pub some_judged : (set : List ℕ) → (JudgedSetCause set → ⊥) → ⊥
some_judged set none = some_set set FitCause some_fit none
