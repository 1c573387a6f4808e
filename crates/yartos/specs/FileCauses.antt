-- Why a verdict comes to a command that names files: a file that is too long, or what the files' bytes are.
use Rattle.std.specs.Prelude.{◌≡◌, ℕ, List, [], ◌∷◌, ◌++◌, Option, codes}
use Rattle.std.specs.Fmt.{decimal}
use Rattle.yt_answer.specs.declared.verdict.Verdict.{Verdict}
use Rattle.yt_answer.specs.declared.verdict.Verdict.TheVariants.{Long}
use Rattle.yartos.specs.Reads.{IsRead, IsTooLong}

-- why a verdict on a file comes, where `Asked` says why one on its bytes does
pub data FileCause (told : Option (List ℕ → Option (List ℕ))) (name : List ℕ) (Asked : List ℕ → Type 0) : Type 0 where
  too_long : IsTooLong told name → FileCause told name Asked
  read : (bytes : List ℕ) → IsRead told name bytes → Asked bytes → FileCause told name Asked

-- the verdict
abbrev pub file_verdict : {told : Option (List ℕ → Option (List ℕ))} {name : List ℕ} {Asked : List ℕ → Type 0} →
    ((bytes : List ℕ) → Asked bytes → Verdict) → FileCause told name Asked → Verdict
file_verdict of (too_long is) = Long
file_verdict of (read bytes is why) = of bytes why

-- the line of a file that is too long, by its number among the files, from 1
abbrev pub long_line : ℕ → List ℕ
long_line number = codes "long file " ++ (decimal number ++ 10 ∷ [])

-- its text, by the number of the file
abbrev pub IsFileText : ℕ → {told : Option (List ℕ → Option (List ℕ))} {name : List ℕ} {Asked : List ℕ → Type 0} →
    ((bytes : List ℕ) → Asked bytes → List ℕ → Type 0) → FileCause told name Asked → List ℕ → Type 0
IsFileText number of (too_long is) text = text ≡ long_line number
IsFileText number of (read bytes is why) text = of bytes why text
