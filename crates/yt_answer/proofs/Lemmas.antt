-- What is due, from answers that are known.
use Rattle.std.proofs.Common.{◌≡◌, ℕ, List, sym, ap, subst, ◌∙◌}
use Rattle.std.specs.Prelude.{IfOk, Result, Ok, Err}
use Rattle.yt_answer.specs.declared.answer.Answer.{Answer}
use Rattle.yt_answer.specs.declared.verdict.Verdict.{Verdict}
use Rattle.yt_answer.specs.Due.{IsDue}

-- an answer of the verdict and the text that a cause asks for
pub due_answer : {C : Type 0} (verdict_of : C → Verdict) (IsText : C → List ℕ → Type 0) (cause : C) (answer : Answer) (verdict : Verdict) (text : List ℕ) →
    answer ≡ record { verdict = verdict; text = text } → verdict ≡ verdict_of cause → IsText cause text → IsDue verdict_of IsText answer.verdict answer.text
due_answer verdict_of IsText cause answer verdict text is same told = record {
  cause = cause;
  verdict = ap (λ (a : Answer). a.verdict) is ∙ same;
  told = subst (IsText cause) (sym (ap (λ (a : Answer). a.text) is)) told;
}

-- the same of a call that may run out of memory
pub due_result : {C E : Type 0} (verdict_of : C → Verdict) (IsText : C → List ℕ → Type 0) (cause : C) (result : Result Answer E) (verdict : Verdict) (text : List ℕ) →
    IfOk result (λ a. a ≡ record { verdict = verdict; text = text }) → verdict ≡ verdict_of cause → IsText cause text → IfOk result (λ a. IsDue verdict_of IsText a.verdict a.text)
due_result verdict_of IsText cause (Ok answer) verdict text is same told = due_answer verdict_of IsText cause answer verdict text is same told
due_result verdict_of IsText cause (Err e) verdict text is same told = tt

-- and of one whose verdict and text are known apart
pub due_parts : {C E : Type 0} (verdict_of : C → Verdict) (IsText : C → List ℕ → Type 0) (cause : C) (result : Result Answer E) →
    IfOk result (λ a. a.verdict ≡ verdict_of cause) → IfOk result (λ a. IsText cause a.text) → IfOk result (λ a. IsDue verdict_of IsText a.verdict a.text)
due_parts verdict_of IsText cause (Ok answer) verdict text = record { cause = cause; verdict = verdict; told = text }
due_parts verdict_of IsText cause (Err e) verdict text = tt
