-- A shelf in memory as its callers see it.
use Rattle.std.specs.Prelude.{ℕ, ◌≡◌, Bool, List, map, length, Option, Some, None, Result, Ok, Err, Vec, String, string_bytes, if◌then◌else◌, ◌&&◌, nat_eq, nat_lt, is_some}
use Rattle.std.specs.List.{list_any}
use Rattle.std.specs.declared.alloc.Global.{Global}
use Rattle.yt_io.specs.declared.shelf.ShelfFault.{ShelfFault}
use Rattle.yt_io.specs.declared.shelf.ShelfFault.TheVariants.{Failed, Long, Memory}
use Rattle.yt_io.specs.Faults.{next}
use Rattle.yt_io.specs.Shelf.{lookup}

-- its files, which of its reads fail, how many reads it had, and how many failed by a fault
pub record Shelved : Type 0 where
  pub files : List (List ℕ × List ℕ)
  pub fails : List ℕ
  pub reads : ℕ
  pub faults : ℕ

-- names and bytes
abbrev pub pairs : List (String Global × Vec ℕ Global) → List (List ℕ × List ℕ)
pairs files = map (λ file. (string_bytes file.0, file.1.items)) files

-- this read is one of those that fail
abbrev pub fails_now : Shelved → List ℕ → Bool
fails_now s name = is_some (lookup s.files name) && list_any (λ n. nat_eq n (next s.reads)) s.fails

-- the shelf after a read
abbrev pub after_read : Shelved → List ℕ → Shelved
after_read s name = record { files = s.files; fails = s.fails; reads = next s.reads; faults = if fails_now s name then next s.faults else s.faults }

-- the answer of a read, while memory lasts
abbrev pub read_gives : Shelved → List ℕ → ℕ → Result (List ℕ) ShelfFault
read_gives s name limit = if fails_now s name then Err Failed else found (lookup s.files name)
  where
    found : Option (List ℕ) → Result (List ℕ) ShelfFault
    found None = Err Failed
    found (Some bytes) = if nat_lt limit (length bytes) then Err Long else Ok bytes

-- the fault is that of this answer, or memory ran out
abbrev pub IsFaultOf : ShelfFault → Result (List ℕ) ShelfFault → Type 0
IsFaultOf Failed answer = answer ≡ Err Failed
IsFaultOf Long answer = answer ≡ Err Long
IsFaultOf Memory answer = Unit {0}

-- the result is this answer, or memory ran out
abbrev pub Gives : Result (Vec ℕ Global) ShelfFault → Result (List ℕ) ShelfFault → Type 0
Gives (Ok v) answer = answer ≡ Ok v.items
Gives (Err e) answer = IsFaultOf e answer
