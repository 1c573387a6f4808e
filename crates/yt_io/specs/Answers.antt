-- The answers of a read.
use Rattle.std.specs.Prelude.{ℕ, Result, Ok, Err, Vec}
use Rattle.std.specs.declared.alloc.Global.{Global}
use Rattle.yt_io.specs.declared.shelf.ShelfFault.{ShelfFault}
use Rattle.yt_io.specs.declared.shelf.ShelfFault.TheVariants.{Failed, Long, Memory}

-- the file was found too long, or memory ran out
abbrev pub IsLongOrMemory : Result (Vec ℕ Global) ShelfFault → Type 0
IsLongOrMemory (Ok v) = ⊥
IsLongOrMemory (Err Failed) = ⊥
IsLongOrMemory (Err Long) = Unit {0}
IsLongOrMemory (Err Memory) = Unit {0}
