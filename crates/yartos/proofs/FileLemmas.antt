-- What is due to files, from what is due to their bytes; and that one verdict is due to them, and it can't be that none is.
use Rattle.std.proofs.Common.{◌≡◌, ℕ, ◌≤◌, ◌<◌, List, length, Option, Some, None, refl, sym, subst, ◌∙◌, ⊎_elim, arith}
use Rattle.std.specs.Prelude.{IsSomeAnd}
use Rattle.std.proofs.lemmas.Bool.{cases_lt}
use Rattle.yt_answer.specs.declared.verdict.Verdict.{Verdict}
use Rattle.yt_answer.specs.declared.verdict.Verdict.TheVariants.{Long}
use Rattle.yt_answer.specs.Due.{IsDue}
use Rattle.yt_base.specs.Limits.{most_text_bytes}
use Rattle.yt_io.specs.Shelf.{IsMissing}
use Rattle.yartos.specs.FileCauses.{FileCause, IsFileText, file_verdict, long_line, read, too_long}
use Rattle.yartos.specs.Reads.{IsRead, IsTooLong}

-- what is due to the bytes of a file that was read is due to the file
pub file_due : (told : Option (List ℕ → Option (List ℕ))) (name bytes : List ℕ) (number : ℕ) (Asked : List ℕ → Type 0) (of : (bytes : List ℕ) → Asked bytes → Verdict)
    (IsText : (bytes : List ℕ) → Asked bytes → List ℕ → Type 0) (verdict : Verdict) (text : List ℕ) → IsRead told name bytes → IsDue (of bytes) (IsText bytes) verdict text →
    IsDue (file_verdict {told = told} {name = name} of) (IsFileText number {told = told} {name = name} IsText) verdict text
file_due told name bytes number Asked of IsText verdict text is due = record { cause = read bytes is due.cause; verdict = due.verdict; told = due.told }

-- the line of a file that is too long is due to it
pub long_due : (told : Option (List ℕ → Option (List ℕ))) (name : List ℕ) (number : ℕ) (Asked : List ℕ → Type 0) (of : (bytes : List ℕ) → Asked bytes → Verdict)
    (IsText : (bytes : List ℕ) → Asked bytes → List ℕ → Type 0) → IsTooLong told name →
    IsDue (file_verdict {told = told} {name = name} of) (IsFileText number {told = told} {name = name} IsText) Long (long_line number)
long_due told name number Asked of IsText is = record { cause = too_long is; verdict = refl; told = refl }

-- a file that was read isn't too long, and has the bytes that are held

pub not_over : (held : List ℕ → Option (List ℕ)) (name bytes : List ℕ) → IsRead (Some held) name bytes → IsTooLong (Some held) name → ⊥
not_over held name bytes is longer =
    let here : most_text_bytes < length bytes = subst (λ (o : Option (List ℕ)). IsSomeAnd o (λ bytes. most_text_bytes < length bytes)) is.held longer in
    let short : length bytes ≤ most_text_bytes = is.short in
    omega arith

same_bytes : (held : List ℕ → Option (List ℕ)) (name x y : List ℕ) → IsRead (Some held) name x → IsRead (Some held) name y → x ≡ y
same_bytes held name x y p q = let c : ◌≡◌ {A = Option (List ℕ)} (Some x) (Some y) = sym p.held ∙ q.held in cc

-- one verdict is due to a file, where one is due to its bytes
pub one_file : (held : List ℕ → Option (List ℕ)) (name : List ℕ) (Asked : List ℕ → Type 0) (of : (bytes : List ℕ) → Asked bytes → Verdict) →
    ((bytes : List ℕ) (a b : Asked bytes) → of bytes a ≡ of bytes b) → (a b : FileCause (Some held) name Asked) → file_verdict of a ≡ file_verdict of b
one_file held name Asked of one (too_long is) (too_long more) = refl
one_file held name Asked of one (too_long is) (read y more k) = absurd (not_over held name y more is)
one_file held name Asked of one (read x is h) (too_long more) = absurd (not_over held name x is more)
one_file held name Asked of one (read x is h) (read y more k) =
    subst (λ (z : List ℕ). (l : Asked z) → of x h ≡ of z l) (same_bytes held name x y is more) (λ l. one x h l) k

-- a file that is held, or too long, isn't missing

long_held : (held : List ℕ → Option (List ℕ)) (name : List ℕ) → IsTooLong (Some held) name → IsMissing (Some held) name → ⊥
long_held held name over missing = subst (λ (o : Option (List ℕ)). IsSomeAnd o (λ bytes. most_text_bytes < length bytes)) missing over

pub read_held : (held : List ℕ → Option (List ℕ)) (name bytes : List ℕ) → IsRead (Some held) name bytes → IsMissing (Some held) name → ⊥
read_held held name bytes is missing = let here = is.held in let clash : ◌≡◌ {A = Option (List ℕ)} None (Some bytes) = sym missing ∙ here in cc

-- a file to which a verdict is due isn't missing
pub file_held : (held : List ℕ → Option (List ℕ)) (name : List ℕ) (Asked : List ℕ → Type 0) → FileCause (Some held) name Asked → IsMissing (Some held) name → ⊥
file_held held name Asked (too_long is) missing = long_held held name is missing
file_held held name Asked (read bytes is h) missing = read_held held name bytes is missing

-- some verdict is due to a file that isn't missing, where some verdict is due to its bytes
pub some_file : (held : List ℕ → Option (List ℕ)) (name : List ℕ) (Asked : List ℕ → Type 0) → (IsMissing (Some held) name → ⊥) →
    ((bytes : List ℕ) → IsRead (Some held) name bytes → (Asked bytes → ⊥) → ⊥) → (FileCause (Some held) name Asked → ⊥) → ⊥
some_file held name Asked there some none = by (held name) refl
  where
    by : (o : Option (List ℕ)) → held name ≡ o → ⊥
    by None e = there e
    by (Some bytes) e =
        ⊎_elim
        (λ (more : most_text_bytes < length bytes). none (too_long (subst (λ (o : Option (List ℕ)). IsSomeAnd o (λ bytes. most_text_bytes < length bytes)) (sym e) more)))
        (λ (few : length bytes ≤ most_text_bytes). let is : IsRead (Some held) name bytes = record { held = e; short = few } in some bytes is (λ why. none (read bytes is why)))
        (cases_lt most_text_bytes (length bytes))
