use Rattle.std.proofs.Common.{◌≡◌, map, drop}
use Rattle.yt_names.specs.declared.scope.Local as declared
use Rattle.yt_names.specs.Resolved.{NamedPlace, local_at}
use Rattle.yt_names.proofs.scope.Visible.place.Given as goal

-- what is read of a local
abbrev pub read : declared.Local → NamedPlace
read l = record { text = l.text.now; place = l.place }

-- what is left has the answer
abbrev pub invariant-loop-local : goal.invariant-loop-local
invariant-loop-local l = local_at l.word (map read (drop l.local-index l.local-items)) ≡ local_at l.word l.self
