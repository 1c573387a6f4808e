use Rattle.std.proofs.Common.{◌≡◌, map, drop}
use Rattle.yt_table.specs.Tables.{first_of}
use Rattle.yt_table.proofs.scan.first_named.Given as goal

-- what is left has the answer
abbrev pub invariant-loop-index : goal.invariant-loop-index
invariant-loop-index g l = first_of l.name l.index (map g.T.Named.text (drop l.index l.items)) ≡ first_of l.name 0 (map g.T.Named.text l.items)
