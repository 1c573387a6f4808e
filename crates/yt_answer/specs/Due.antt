-- What is due: a verdict and a text, by their cause.
use Rattle.std.specs.Prelude.{◌≡◌, ℕ, List, codes}
use Rattle.yt_answer.specs.declared.verdict.Verdict.{Verdict}

-- this verdict with this text is due: there is a cause, whose verdict it is, and the text is one of it
pub record IsDue {C : Type 0} (verdict_of : C → Verdict) (IsText : C → List ℕ → Type 0) (given : Verdict) (text : List ℕ) : Type 0 where
  pub cause : C
  pub verdict : given ≡ verdict_of cause
  pub told : IsText cause text

-- the line of what isn't built yet
abbrev pub not_yet_line : List ℕ
not_yet_line = codes "notyet\n"
