-- The clauses of the top call, by what was told.
use Rattle.std.proofs.Common.{◌≡◌, ℕ, List, Option, refl, subst, arith}
use Rattle.yt_answer.specs.declared.status.Status.{Status}
use Rattle.yt_answer.specs.declared.status.Status.TheVariants.{ReadFault, WriteFault, NoMemory}
use Rattle.yt_answer.specs.declared.verdict.Verdict.{Verdict}
use Rattle.yt_answer.specs.Code.{status_of}
use Rattle.yt_io.specs.Faults.{IsQuiet, Rose}
use Rattle.yartos.specs.Answer.{IfVerdict, IsAnswer, IsDueTo, OrNoMemory, OrWriteFault}
use Rattle.yartos.specs.Words.{Request, request_of}

-- what is due to a request is due to words that ask for it
pub due_for : (told : Option (List ℕ → Option (List ℕ))) (request other : Request) (verdict : Verdict) (text : List ℕ) → request ≡ other → IsDueTo told request verdict text → IsDueTo told other verdict text
due_for told request other verdict text e due = subst (λ (p : Request). IsDueTo told p verdict text) e due

-- what is due, and was told whole
pub told_whole : (told : Option (List ℕ → Option (List ℕ))) (words : List (List ℕ)) (result : Status) (verdict : Verdict) (text : List ℕ) (IsWhole : List ℕ → Type 0) →
    IsDueTo told (request_of words) verdict text → OrWriteFault result (status_of verdict) → IfVerdict result (IsWhole text) → IfVerdict result ((text : List ℕ) × IsAnswer told words result text × IsWhole text)
told_whole told words ReadFault verdict text IsWhole due is whole = tt
told_whole told words WriteFault verdict text IsWhole due is whole = tt
told_whole told words NoMemory verdict text IsWhole due is whole = tt
told_whole told words result verdict text IsWhole due is whole = (text, record { verdict = verdict; is = is; due = due }, whole)

-- no write fault where the count doesn't rise
pub no_write_fault : (result due : Status) (old new : ℕ) → OrWriteFault result due → (result ≡ WriteFault → Rose old new) → IsQuiet old new → result ≡ due
no_write_fault WriteFault due old new told failed quiet = let more = failed refl quiet.1 in let same = quiet.0 in absurd (omega arith)
no_write_fault result due old new told failed quiet = told

pub or_no_memory : (result due : Status) → result ≡ due → OrNoMemory result due
or_no_memory NoMemory due e = tt
or_no_memory result due e = e
