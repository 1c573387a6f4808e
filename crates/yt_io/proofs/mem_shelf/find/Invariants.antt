use Rattle.std.proofs.Common.{◌≡◌, drop}
use Rattle.yt_io.specs.Shelf.{lookup}
use Rattle.yt_io.specs.MemShelf.{pairs}
use Rattle.yt_io.proofs.mem_shelf.find.Given as goal

-- what is left has the answer
abbrev pub invariant-loop-file : goal.invariant-loop-file
invariant-loop-file l = lookup (pairs (drop l.file-index l.files)) l.name ≡ lookup (pairs l.files) l.name
