-- What a table of operators holds: its heads, by number from 1, and a closure beside each. Of the braces, the first two are the
-- type of closures and which of them there are, the third is what they answer.
use Rattle.std.specs.Prelude.{◌≡◌, List, map}
use Rattle.yt_graph.specs.declared.operator.OpHead.{OpHead}
use Rattle.yt_ops.specs.declared.table.OpTable.{OpTable}

abbrev pub heads_of : {D : Type 0} {is : D → Type 0} {calls : _} → OpTable D is calls → List OpHead
heads_of t = t.heads

-- the same heads with the same closures
pub record HoldsSame {D : Type 0} {is : D → Type 0} {calls : _} (old new : OpTable D is calls) : Type 0 where
  pub heads : heads_of new ≡ heads_of old
  pub closures : map (λ s. s.body) new.stored.items ≡ map (λ s. s.body) old.stored.items
