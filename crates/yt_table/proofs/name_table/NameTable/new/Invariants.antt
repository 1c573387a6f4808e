use Rattle.std.proofs.Common.{◌≡◌, ℕ, List, map, drop}
use Rattle.yt_table.specs.Tables.{first_of}
use Rattle.yt_table.specs.Inside.Numbers.{number_in, or_later}
use Rattle.yt_table.proofs.name_table.NameTable.new.Given as goal

-- the number of a name so far, or else in the rest, is that in all
abbrev pub invariant-loop-index : goal.invariant-loop-index
invariant-loop-index g l = (name : List ℕ) → or_later (number_in l.firsts name) (first_of name l.index (map g.T.Named.text (drop l.index l.all))) ≡ first_of name 0 (map g.T.Named.text l.all)
