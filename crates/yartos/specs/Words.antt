-- The words of a command, and what they ask for.
use Rattle.std.specs.Prelude.{ℕ, List, [], ◌∷◌, length, map, Bool, true, not, ◌&&◌, ◌==◌, nat_le, Option, None, Some, String, string_bytes, if◌then◌else◌, bytes_eq, codes}
use Rattle.std.specs.declared.alloc.Global.{Global}
use Rattle.yt_base.specs.declared.numbers.Decimal.{Decimal}
use Rattle.yt_base.specs.declared.numbers.Decimal.TheVariants.{Other, Over, Value}
use Rattle.yt_base.specs.Digits.{digits_of_text}
use Rattle.yartos.specs.declared.words.TheConstants.{MOST_DIGITS}

-- the bytes of each word
abbrev pub texts : List (String Global) → List (List ℕ)
texts words = map string_bytes words

-- a word that stands for a file doesn't begin with a minus
abbrev pub names_file : List ℕ → Bool
names_file [] = true
names_file (c ∷ cs) = not (c == 45)

-- the value of digits
abbrev pub value_in : Decimal → Option ℕ
value_in (Value n) = Some n
value_in Over = None
value_in Other = None

-- what a word counts: one to eight decimal digits
abbrev pub count_of : List ℕ → Option ℕ
count_of word = if nat_le (length word) MOST_DIGITS then value_in (digits_of_text word) else None

-- a command that judges the files of these names
pub data Command : Type 0 where
  form : (graph : List ℕ) → Command
  tasks : (graph : List ℕ) → Command
  check : (graph : List ℕ) → Command
  run : (graph trace : List ℕ) → Command
  stop : (graph trace : List ℕ) (tick : ℕ) → Command
  set : (named : List ℕ) → Command
  replay : (named : List ℕ) → Command
  play : (named plan : List ℕ) → Command

-- what words ask for: they are no listed form; the example of a number is shown, which isn't built yet; or a command judges files
pub data Request : Type 0 where
  misuse : Request
  demo : (number : ℕ) → Request
  judges : Command → Request

-- a stop of a run at the tick that a word counts, where it counts one
abbrev pub stops : List ℕ → List ℕ → Option ℕ → Request
stops graph trace (Some tick) = judges (stop graph trace tick)
stops graph trace None = misuse

-- the demo of the number that a word counts, where it counts one from 1 to 16
abbrev pub demos : Option ℕ → Request
demos (Some number) = if nat_le 1 number && nat_le number 16 then demo number else misuse
demos None = misuse

-- what words ask for: one word behind the command, two or three, as the listed forms have them
abbrev pub request_of : List (List ℕ) → Request
request_of (command ∷ word ∷ []) =
    if bytes_eq command (codes "form") && names_file word then judges (form word)
    else (if bytes_eq command (codes "tasks") && names_file word then judges (tasks word)
    else (if bytes_eq command (codes "check") && names_file word then judges (check word)
    else (if bytes_eq command (codes "set") && names_file word then judges (set word)
    else (if bytes_eq command (codes "replay") && names_file word then judges (replay word)
    else (if bytes_eq command (codes "demo") then demos (count_of word)
    else misuse)))))
request_of (command ∷ first ∷ second ∷ []) =
    if bytes_eq command (codes "run") && (names_file first && names_file second) then judges (run first second)
    else (if bytes_eq command (codes "play") && (names_file first && names_file second) then judges (play first second)
    else misuse)
request_of (command ∷ graph ∷ trace ∷ tick ∷ []) =
    if bytes_eq command (codes "stop") && (names_file graph && names_file trace) then stops graph trace (count_of tick)
    else misuse
request_of words = misuse

-- the names of a command's files, in the order in which they are read
abbrev pub files_of : Command → List (List ℕ)
files_of (form graph) = graph ∷ []
files_of (tasks graph) = graph ∷ []
files_of (check graph) = graph ∷ []
files_of (run graph trace) = graph ∷ trace ∷ []
files_of (stop graph trace tick) = graph ∷ trace ∷ []
files_of (set named) = named ∷ []
files_of (replay named) = named ∷ []
files_of (play named plan) = named ∷ plan ∷ []

-- a request that no file is read for
abbrev pub NeedsNoFile : Request → Type 0
NeedsNoFile misuse = Unit {0}
NeedsNoFile (demo number) = Unit {0}
NeedsNoFile (judges command) = ⊥

-- a request that isn't built yet
abbrev pub IsNotBuilt : Request → Type 0
IsNotBuilt misuse = ⊥
IsNotBuilt (demo number) = Unit {0}
IsNotBuilt (judges command) = ⊥
