-- What is due to the words and to the files that they name.
use Rattle.std.specs.Prelude.{◌≡◌, ℕ, List, Option, Some}
use Rattle.yt_answer.specs.declared.status.Status.{Status}
use Rattle.yt_answer.specs.declared.status.Status.TheVariants.{ReadFault, WriteFault, NoMemory}
use Rattle.yt_answer.specs.declared.verdict.Verdict.{Verdict}
use Rattle.yt_answer.specs.Code.{status_of}
use Rattle.yt_answer.specs.Due.{IsDue}
use Rattle.yartos.specs.Causes.{IsRequestText, RequestCause, request_verdict}
use Rattle.yartos.specs.Reads.{CannotRead}
use Rattle.yartos.specs.Words.{Request, demo, files_of, judges, misuse, request_of}

-- this verdict with this text is due to a request, by what the shelf tells of its files
abbrev pub IsDueTo : Option (List ℕ → Option (List ℕ)) → Request → Verdict → List ℕ → Type 0
IsDueTo told request verdict text = IsDue (request_verdict told request) (IsRequestText told request) verdict text

-- this status with this text answers words, by what the shelf tells of the files that they name: it is that of the verdict that is due
pub record IsAnswer (told : Option (List ℕ → Option (List ℕ))) (words : List (List ℕ)) (status : Status) (text : List ℕ) : Type 0 where
  pub verdict : Verdict
  pub is : status ≡ status_of verdict
  pub due : IsDueTo told (request_of words) verdict text

-- words call for a status, by what the shelf holds: it is that of the verdict of a cause
pub record CallsFor (held : List ℕ → Option (List ℕ)) (words : List (List ℕ)) (status : Status) : Type 0 where
  pub cause : RequestCause (Some held) (request_of words)
  pub is : status ≡ status_of (request_verdict (Some held) (request_of words) cause)

-- the shelf tells that a file isn't held which the words name, and each before it was read
abbrev pub CannotReadNamed : Option (List ℕ → Option (List ℕ)) → Request → Type 0
CannotReadNamed told misuse = ⊥
CannotReadNamed told (demo number) = ⊥
CannotReadNamed told (judges command) = CannotRead told (files_of command)

-- P, unless a read, a write or memory failed
abbrev pub IfVerdict : Status → Type 0 → Type 0
IfVerdict ReadFault P = Unit {0}
IfVerdict WriteFault P = Unit {0}
IfVerdict NoMemory P = Unit {0}
IfVerdict status P = P

-- the status is this one, or memory ran out
abbrev pub OrNoMemory : Status → Status → Type 0
OrNoMemory NoMemory due = Unit {0}
OrNoMemory status due = status ≡ due

-- the status is this one, or a write failed
abbrev pub OrWriteFault : Status → Status → Type 0
OrWriteFault WriteFault due = Unit {0}
OrWriteFault status due = status ≡ due
