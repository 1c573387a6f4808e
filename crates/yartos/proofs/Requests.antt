-- One status is due to words and files, and it can't be that none is.
use Rattle.std.proofs.Common.{◌≡◌, ℕ, List, Option, Some, refl, sym, ap, subst, ◌∙◌}
use Rattle.yt_answer.specs.declared.status.Status.{Status}
use Rattle.yt_answer.specs.declared.verdict.Verdict.{Verdict}
use Rattle.yt_answer.specs.declared.verdict.Verdict.TheVariants.{NotYet}
use Rattle.yt_answer.specs.Code.{status_of}
use Rattle.yt_answer.specs.Due.{not_yet_line}
use Rattle.yartos.specs.Answer.{CallsFor, CannotReadNamed, IsAnswer, IsDueTo}
use Rattle.yartos.specs.Causes.{RequestCause, request_verdict}
use Rattle.yartos.specs.Words.{IsNotBuilt, Request, demo, judges, misuse, request_of}
use Rattle.yartos.proofs.Commands.{command_held, one_command, some_command}

-- one verdict is due to a request
pub one_request : (held : List ℕ → Option (List ℕ)) (request : Request) (a b : RequestCause (Some held) request) → request_verdict (Some held) request a ≡ request_verdict (Some held) request b
one_request held misuse a b = refl
one_request held (demo number) a b = refl
one_request held (judges command) a b = one_command held command a b

-- where one is due, no file that is reached is missing
pub request_held : (held : List ℕ → Option (List ℕ)) (request : Request) → RequestCause (Some held) request → CannotReadNamed (Some held) request → ⊥
request_held held misuse cause cannot = cannot
request_held held (demo number) cause cannot = cannot
request_held held (judges command) cause cannot = command_held held command cause cannot

-- some verdict is due to a request none of whose files is missing
pub some_request : (held : List ℕ → Option (List ℕ)) (request : Request) → (CannotReadNamed (Some held) request → ⊥) → (RequestCause (Some held) request → ⊥) → ⊥
some_request held misuse there none = none tt
some_request held (demo number) there none = none tt
some_request held (judges command) there none = some_command held command there none

-- what is due where the shelf tells has a cause by what is held
pub cause_of : (told : Option (List ℕ → Option (List ℕ))) (held : List ℕ → Option (List ℕ)) (request : Request) (verdict : Verdict) (text : List ℕ) → told ≡ Some held → IsDueTo told request verdict text →
    (cause : RequestCause (Some held) request) × (verdict ≡ request_verdict (Some held) request cause)
cause_of told held request verdict text tells due =
    let here = subst (λ t. IsDueTo t request verdict text) tells due in
    (here.cause, here.verdict)

-- the status of what is due is the one that is called for
pub due_is_called : (told : Option (List ℕ → Option (List ℕ))) (held : List ℕ → Option (List ℕ)) (words : List (List ℕ)) (verdict : Verdict) (text : List ℕ) (due : Status) →
    told ≡ Some held → IsDueTo told (request_of words) verdict text → CallsFor held words due → status_of verdict ≡ due
due_is_called told held words verdict text due tells is calls =
    let mine = cause_of told held (request_of words) verdict text tells is in
    ap status_of (mine.1 ∙ one_request held (request_of words) mine.0 calls.cause) ∙ sym calls.is

pub answered_once : (held : List ℕ → Option (List ℕ)) (words : List (List ℕ)) (a b : Status) (text other : List ℕ) → IsAnswer (Some held) words a text → IsAnswer (Some held) words b other → a ≡ b
answered_once held words a b text other h k =
    let due = h.due in
    let more = k.due in
    h.is ∙ ap status_of (due.verdict ∙ one_request held (request_of words) due.cause more.cause ∙ sym more.verdict) ∙ sym k.is

pub called_once : (held : List ℕ → Option (List ℕ)) (words : List (List ℕ)) (a b : Status) → CallsFor held words a → CallsFor held words b → a ≡ b
called_once held words a b h k = h.is ∙ ap status_of (one_request held (request_of words) h.cause k.cause) ∙ sym k.is

pub answer_is_called : (held : List ℕ → Option (List ℕ)) (words : List (List ℕ)) (a b : Status) (text : List ℕ) → IsAnswer (Some held) words a text → CallsFor held words b → a ≡ b
answer_is_called held words a b text h k = h.is ∙ due_is_called (Some held) held words h.verdict text b refl h.due k

-- a read fault is not called for
pub can_read : (told : Option (List ℕ → Option (List ℕ))) (held : List ℕ → Option (List ℕ)) (words : List (List ℕ)) (due : Status) → told ≡ Some held → CallsFor held words due →
    CannotReadNamed told (request_of words) → ⊥
can_read told held words due tells calls cannot = request_held held (request_of words) calls.cause (subst (λ t. CannotReadNamed t (request_of words)) tells cannot)

-- what is due to a request that isn't built yet
pub not_built_due : (told : Option (List ℕ → Option (List ℕ))) (request : Request) → IsNotBuilt request → IsDueTo told request NotYet not_yet_line
not_built_due told misuse is = absurd is
not_built_due told (demo number) is = record { cause = tt; verdict = refl; told = refl }
not_built_due told (judges command) is = absurd is
