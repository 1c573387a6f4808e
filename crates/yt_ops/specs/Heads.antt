-- The heads that a table keeps, which one more it takes, and why it takes none.
use Rattle.std.specs.Prelude.{◌≡◌, ℕ, ◌<◌, ◌≤◌, Bool, true, false, List, length, map}
use Rattle.std.specs.List.{All}
use Rattle.yt_table.specs.Tables.{is_among}
use Rattle.yt_graph.specs.declared.operator.OpHead.{OpHead}
use Rattle.yt_graph.specs.Operators.{IsNamedHead}
use Rattle.yt_graph.specs.WellFormed.{AreDifferent}
use Rattle.yt_ops.specs.declared.refused.OpCause.{OpCause}
use Rattle.yt_ops.specs.declared.refused.OpCause.TheVariants.{Twice, Full, Memory}
use Rattle.yt_ops.specs.Limits.{most_ops}

abbrev pub names_of : List OpHead → List (List ℕ)
names_of heads = map (λ h. h.name) heads

-- whether one of these has the name
abbrev pub has_name : List OpHead → List ℕ → Bool
has_name heads name = is_among name (names_of heads)

-- not too many, each within its ranges, and no two of one name
pub record AreTableHeads (heads : List OpHead) : Type 0 where
  pub count : length heads ≤ most_ops
  pub each : All IsNamedHead heads
  pub names : AreDifferent (names_of heads)

-- one more head may come: none of these has its name, and there is room
pub record HasPlaceFor (heads : List OpHead) (head : OpHead) : Type 0 where
  pub fresh : has_name heads head.name ≡ false
  pub room : length heads < most_ops

-- why a head isn't taken beside these; memory runs out only where there is a place for it
abbrev pub IsCauseOf : List OpHead → OpHead → OpCause → Type 0
IsCauseOf heads head Twice = has_name heads head.name ≡ true
IsCauseOf heads head Full = (has_name heads head.name ≡ false) × (length heads ≡ most_ops)
IsCauseOf heads head Memory = HasPlaceFor heads head
