use Rattle.std.proofs.Common.{◌≡◌, map, take}
use Rattle.yt_table.proofs.name_set.NameSet.to_names.Given as goal

abbrev pub invariant-loop-name : goal.invariant-loop-name
invariant-loop-name l = l.names ≡ map (λ k. k.now) (take l.name-index l.name-items)
