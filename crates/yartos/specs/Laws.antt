-- What holds of all words, whatever the files hold.
use Rattle.std.specs.Prelude.{◌≡◌, ℕ, List, Option, Some}
use Rattle.yt_answer.specs.declared.status.Status.{Status}
use Rattle.yartos.specs.Answer.{CallsFor, CannotReadNamed, IsAnswer}
use Rattle.yartos.specs.Words.{request_of}

-- where the shelf tells what it holds, words have one status: that of each answer, and the one that they call for; and where they call
-- for one, each file that is reached can be read
pub record OneStatusIsDue : Type 0 where
  pub answered :
      (held : List ℕ → Option (List ℕ)) (words : List (List ℕ)) (a b : Status) (text other : List ℕ) →
      IsAnswer (Some held) words a text → IsAnswer (Some held) words b other → a ≡ b
  pub called : (held : List ℕ → Option (List ℕ)) (words : List (List ℕ)) (a b : Status) → CallsFor held words a → CallsFor held words b → a ≡ b
  pub met :
      (held : List ℕ → Option (List ℕ)) (words : List (List ℕ)) (a b : Status) (text : List ℕ) → IsAnswer (Some held) words a text → CallsFor held words b → a ≡ b
  pub readable :
      (held : List ℕ → Option (List ℕ)) (words : List (List ℕ)) (status : Status) → CallsFor held words status → CannotReadNamed (Some held) (request_of words) → ⊥

-- where the shelf tells what it holds, and each file that is reached can be read, it can't be that words call for no status
abbrev pub SomeStatusIsDue : Type 0
SomeStatusIsDue =
    (held : List ℕ → Option (List ℕ)) (words : List (List ℕ)) → (CannotReadNamed (Some held) (request_of words) → ⊥) →
    ((status : Status) → CallsFor held words status → ⊥) → ⊥
